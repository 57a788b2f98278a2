-- What the library answers to an edit of the current cell, as what comes of a command.
use Rattle.edit_script.proofs.Common.{◌≡◌, ◌∙◌, sym, ap, subst, ℕ, List, Option, Some, Result, Ok, Err, option_map, option_map_or, CellKey, LibFault}
use Rattle.edit_script.proofs.Common.{LibraryParts, edits_of, seen, EditIsRefused, LibraryView, EditFault, IsTold, editing_of, in_current}
use Rattle.std.proofs.Common.{◌⊎◌, refl, inl, inr, suc}
use Rattle.std.specs.Prelude.{MatchOption, OnErr, OnOk}
use Rattle.cell_library.specs.Libraries.{IsNextEdit, IsSame}
use Rattle.cell_library.specs.Refusals.{Answers, AnswersOrLacksMemory, HasFaultOrLacksMemory}
use Rattle.edit_script.specs.declared.faults.EditFault.TheVariants.{NoCurrent, Memory}
use Rattle.edit_script.specs.Answers.{Leaves}
use Rattle.edit_script.specs.Refusals.{CurrentIsRefused, LibraryRefuses, with_word}

-- ---- an edit of the library

-- What the library answered to an edit of a cell, and what it left.
pub record Answered {X : Type 0} (old new : LibraryParts) (cell : ℕ) (after : LibraryView) (IsRefused : LibFault → Type 0)
    (answer : Result X LibFault) : Type 0 where
  pub answers : AnswersOrLacksMemory (EditIsRefused (edits_of old) IsRefused) answer
  pub made : OnOk answer (seen new ≡ after)
  pub edit : OnOk answer (IsNextEdit old new cell)
  pub refused : OnErr answer (IsSame old new)

-- the same of what equals that which it was asked of
pub answered_as : {A X : Type 0} (old new : LibraryParts) (cell : ℕ) (after : A → LibraryView) (IsRefused : A → LibFault → Type 0)
    (answer : Result X LibFault) (given it : A) → given ≡ it → Answered old new cell (after given) (IsRefused given) answer →
    Answered old new cell (after it) (IsRefused it) answer
answered_as {A} old new cell after IsRefused answer given it same answered =
    subst (λ (a : A). Answered old new cell (after a) (IsRefused a) answer) same answered

-- a call that takes no memory lacks none
pub or_lacks_memory : {X : Type 0} (IsRefused : LibFault → Type 0) (answer : Result X LibFault) → Answers IsRefused answer →
    AnswersOrLacksMemory IsRefused answer
or_lacks_memory IsRefused (Ok done) answers = answers
or_lacks_memory IsRefused (Err fault) answers = inr answers

-- a fault of the library, as that of a command
pub refused_with_word : (old : LibraryParts) (current : Option CellKey) (word : List ℕ) (IsRefused : LibFault → Type 0) (fault : LibFault)
    (told : EditFault) → HasFaultOrLacksMemory (EditIsRefused (edits_of old) IsRefused) fault → (told ≡ Memory) ⊎ (told ≡ with_word word fault) →
    (told ≡ Memory) ⊎ LibraryRefuses (editing_of old current) word IsRefused told
refused_with_word old current word IsRefused fault told has (inl memory) = inl memory
refused_with_word old current word IsRefused fault told (inl memory) (inr is) = inl (is ∙ ap (with_word word) memory)
refused_with_word old current word IsRefused fault told (inr refused) (inr is) = inr (record { fault = fault; is_refused = refused; is = is })

-- what comes of an edit of the library, where the current cell stays
pub answered_leaves : {X Y : Type 0} (old new : LibraryParts) (current : Option CellKey) (cell : ℕ) (word : List ℕ) (after : LibraryView)
    (IsRefused : LibFault → Type 0) (answer : Result X LibFault) (result : Result Y EditFault) → Answered old new cell after IsRefused answer →
    IsTold word answer result →
    Leaves old current new current (record { library = after; edits = suc (edits_of old); current = (editing_of old current).current })
    (LibraryRefuses (editing_of old current) word IsRefused) result
answered_leaves old new current cell word after IsRefused (Ok done) (Ok told) given is = (
  λ i. record { library = given.made i; edits = given.edit.edits i; current = (editing_of old current).current },
  λ fault refused. given.answers refused.fault refused.is_refused,
)
answered_leaves old new current cell word after IsRefused (Ok done) (Err told) given is = absurd is
answered_leaves old new current cell word after IsRefused (Err fault) (Ok told) given is = absurd is
answered_leaves old new current cell word after IsRefused (Err fault) (Err told) given is =
    (refused_with_word old current word IsRefused fault told given.answers is, given.refused, refl)

abbrev number_of : Option CellKey → Option ℕ
number_of current = option_map (λ (key : CellKey). key.0) current

-- there is a current cell
pub in_cell : {X : Type 0} (old new : LibraryParts) (current : Option CellKey) (change : ℕ → LibraryView) (IsRefused : ℕ → EditFault → Type 0)
    (result : Result X EditFault) (cell : CellKey) → current ≡ Some cell →
    Leaves old current new current (record { library = change cell.0; edits = suc (edits_of old); current = (editing_of old current).current })
    (IsRefused cell.0) result →
    Leaves old current new current (in_current (editing_of old current) change) (CurrentIsRefused (editing_of old current) IsRefused) result
in_cell old new current change IsRefused result cell is leaves =
    subst (λ (found : Option ℕ). Leaves old current new current (option_map_or (λ at. record (editing_of old current) {
      library = change at;
      edits =
          suc (edits_of old);
    }) found (editing_of old current)) (λ told. MatchOption found (told ≡ NoCurrent) (λ at. IsRefused at told)) result)
    (sym (ap number_of is)) leaves

-- what a word names is there
pub in_found : {A X : Type 0} (old new : LibraryParts) (current : Option CellKey) (change : A → LibraryView) (Absent : EditFault → Type 0)
    (IsRefused : A → EditFault → Type 0) (result : Result X EditFault) (found : Option A) (it : A) → found ≡ Some it →
    Leaves old current new current (record { library = change it; edits = suc (edits_of old); current = (editing_of old current).current })
    (IsRefused it) result →
    Leaves old current new current
    (record { library = option_map_or change found (seen old); edits = suc (edits_of old); current = (editing_of old current).current })
    (λ told. MatchOption found (Absent told) (λ x. IsRefused x told)) result
in_found {A} old new current change Absent IsRefused result found it is leaves =
    subst (λ (f : Option A). Leaves old current new current (record {
      library = option_map_or change f (seen old);
      edits = suc (edits_of old);
      current = (editing_of old current).current;
    }) (λ told. MatchOption f (Absent told) (λ x. IsRefused x told)) result) (sym is) leaves
