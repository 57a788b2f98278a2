-- A change that can be made is refused for want of memory alone, and where there were too many edits.
use Rattle.undo_log.proofs.Common.{◌≡◌, ◌<◌, ◌&&◌, ℕ, suc, ℤ, neg_ℤ, true, false, Bool, List, [], ◌∷◌, ◌++◌, length, refl, sym, ap, subst, ◌∙◌, inl}
use Rattle.undo_log.proofs.Common.{inr, arith, true≢false, Some, not, slice_get, slice_index_or, w64, bytes_eq, and_from, cases_Bool, common_steps}
use Rattle.undo_log.proofs.Common.{ints, to_z-of_z, length-append, bytes_eq-Decides, IsLabel, Label, is_in_range, Hull, UseBody, IsLawfulUse}
use Rattle.undo_log.proofs.Common.{LibFault, Edits, MOST_EDITS, labelled, moved, moved_use, with_use_changed, DeleteIsRefused, LabelIsRefused}
use Rattle.undo_log.proofs.Common.{MoveIsRefused, has_id, IsLawfulView, CellView, LibraryView, view_at}
use Rattle.std.proofs.Common.{◌||◌, pos, ◌≤ℤ◌}
use Rattle.std.specs.Prelude.{IsTrue, Result, Ok, Err}
use Rattle.std.proofs.lemmas.Bool.{and_parts}
use Rattle.std.proofs.lemmas.List.{get_or_push}
use Rattle.edit_script.specs.CellLibrary.CellBodies.Numbers.{has_sides, is_displacement, is_index}
use Rattle.edit_script.specs.CellLibrary.declared.faults.LibFault.TheVariants.{TooMany}
use Rattle.edit_script.specs.CellLibrary.Refusals.{Answers, AnswersOrLacksMemory, EditIsRefused}
use Rattle.edit_script.specs.CellLibrary.Refusals.{NothingElse, moves_too_far, stands_in_range}
use Rattle.edit_script.proofs.CellLibrary.FaultLaws.{not_first}
use Rattle.undo_log.proofs.BodyLaws.{Uses}
use Rattle.undo_log.proofs.CellLaws.{cell_here, count_kept}
use Rattle.undo_log.proofs.LawfulLaws.{lawful_labels, lawful_uses, lawful_within}
use Rattle.undo_log.proofs.UseMoves.{IsShort, changed_there}
use mir.Val.{of_z, to_z}

-- ---- what is left of faults

-- a call that has no fault of its own is refused for nothing else
pub nothing_else : {X : Type 0} (edits : ℕ) (IsRefused : LibFault → Type 0) (result : Result X LibFault) → ((fault : LibFault) → IsRefused fault → ⊥)
    → Answers (EditIsRefused edits IsRefused) result → AnswersOrLacksMemory (EditIsRefused edits NothingElse) result
nothing_else edits IsRefused (Ok x) never answers =
    λ fault refused. elim refused [ inl full ↦ answers fault (inl full) | inr none ↦ none.1 ]
nothing_else edits IsRefused (Err told) never answers =
    elim answers [ inl full ↦ inr (inl full) | inr refused ↦ absurd (never told refused.1) ]

-- the same of a call that takes memory
pub nothing_else_or_memory : {X : Type 0} (edits : ℕ) (IsRefused : LibFault → Type 0) (result : Result X LibFault)
    → ((fault : LibFault) → IsRefused fault → ⊥) → AnswersOrLacksMemory (EditIsRefused edits IsRefused) result
    → AnswersOrLacksMemory (EditIsRefused edits NothingElse) result
nothing_else_or_memory edits IsRefused (Ok x) never answers =
    λ fault refused. elim refused [ inl full ↦ answers fault (inl full) | inr none ↦ none.1 ]
nothing_else_or_memory edits IsRefused (Err told) never (inl memory) = inl memory
nothing_else_or_memory edits IsRefused (Err told) never (inr (inl full)) = inr (inl full)
nothing_else_or_memory edits IsRefused (Err told) never (inr (inr refused)) = absurd (never told refused.1)

-- ---- uses

-- a use that is there can be deleted
pub deletes : (view : LibraryView) (cell : ℕ) (id : List ℕ) → has_id (view_at view cell).uses id ≡ true → (fault : LibFault)
    → DeleteIsRefused view cell id fault → ⊥
deletes view cell id has fault = not_first (λ none. true≢false (sym has ∙ none)) (λ none. none)

-- no use with the id would stand too far
not_too_far : (dx dy : ℤ) (id : List ℕ) (uses : Uses)
    → ((k : ℕ) (used : UseBody) → slice_get uses k ≡ Some (id, used) → stands_in_range (moved_use dx dy used) ≡ true)
    → moves_too_far uses id dx dy ≡ false
not_too_far dx dy id [] near = refl
not_too_far dx dy id (first ∷ rest) near = elim (cases_Bool (bytes_eq first.0 id)) [
  | inl here ↦
      let name : first.0 ≡ id = (bytes_eq-Decides first.0 id).0 here in
      let stands : stands_in_range (moved_use dx dy first.1) ≡ true = near 0 first.1 (λ i. Some (name i, first.1)) in
      ap (λ (b : Bool). (b && not (stands_in_range (moved_use dx dy first.1))) || moves_too_far rest id dx dy) here
      ∙ ap (λ (b : Bool). not b || moves_too_far rest id dx dy) stands
      ∙ not_too_far dx dy id rest (λ k used is. near (suc k) used is)
  | inr away ↦
      ap (λ (b : Bool). (b && not (stands_in_range (moved_use dx dy first.1))) || moves_too_far rest id dx dy) away
      ∙ not_too_far dx dy id rest (λ k used is. near (suc k) used is)
]

-- a lawful use stands in range
stands_so : (used : UseBody) → IsLawfulUse used → stands_in_range used ≡ true
stands_so used lawful =
    and_from (is_displacement used.placed.dx) (is_displacement used.placed.dy) (near used.placed.dx lawful.dx.low lawful.dx.high)
    (near used.placed.dy lawful.dy.low lawful.dy.high)
  where
    near : (z : ℤ) → neg_ℤ (pos 134217716) ≤ℤ z → z ≤ℤ pos 134217716 → is_displacement z ≡ true
    near z low high = grind (arith, ints, common_steps)

-- a use that is there and stands in a lawful library then can be moved
pub moves : (view : LibraryView) (cell : ℕ) (id : List ℕ) (dx dy : ℤ) → cell < length view.cells → has_id (view_at view cell).uses id ≡ true
    → IsLawfulView (moved view cell id dx dy) → (fault : LibFault) → MoveIsRefused view cell id dx dy fault → ⊥
moves view cell id dx dy there has lawful fault =
    not_first (λ none. true≢false (sym has ∙ none))
    (not_first (λ far. true≢false (sym far ∙ not_too_far dx dy id (view_at view cell).uses near))
    (not_first (lawful_within (moved view cell id dx dy) Hull lawful) (λ none. none)))
  where
    near : (k : ℕ) (used : UseBody) → slice_get (view_at view cell).uses k ≡ Some (id, used) → stands_in_range (moved_use dx dy used) ≡ true
    near k used is =
        let here =
        cell_here view cell (λ (held : CellView). record held { uses = with_use_changed (moved_use dx dy) id held.uses }) there in
        let kept = count_kept view cell (λ (held : CellView). record held { uses = with_use_changed (moved_use dx dy) id held.uses }) in
        let stands : slice_get (view_at (moved view cell id dx dy) cell).uses k ≡ Some (id, moved_use dx dy used) =
        ap (λ (held : CellView). slice_get held.uses k) here ∙ changed_there (moved_use dx dy) (view_at view cell).uses k id used is in
        stands_so (moved_use dx dy used) (lawful_uses (moved view cell id dx dy) cell lawful (omega arith) k id (moved_use dx dy used) stands)

-- a short displacement is passed as it is
pub short_passed : (z : ℤ) → IsShort z → to_z w64 (of_z w64 z) ≡ z
short_passed z is = to_z-of_z w64 z (record { sfits = grind (arith, ints, common_steps) })

-- and may be the index of a grid
pub short_index : (z : ℤ) → IsShort z → IsTrue (is_index (to_z w64 (of_z w64 z)))
short_index z is =
    let same : to_z w64 (of_z w64 z) ≡ z = short_passed z is in
    rw same (grind (arith, ints, common_steps))

-- ---- labels

-- a label that comes to a lawful library is of its form
pub label_is : (view : LibraryView) (cell : ℕ) (label : Label) → cell < length view.cells → IsLawfulView (labelled view cell label)
    → IsLabel view.tech label
label_is view cell label there lawful =
    let add : CellView → CellView = λ held. record held { labels = held.labels ++ label ∷ [] } in
    let kept = count_kept view cell add in
    let here : (view_at (labelled view cell label) cell).labels ≡ (view_at view cell).labels ++ label ∷ [] =
    ap (λ (held : CellView). held.labels) (cell_here view cell add there) in
    let long = length-append (view_at view cell).labels (label ∷ []) in
    let counted : length (view_at (labelled view cell label) cell).labels ≡ length ((view_at view cell).labels ++ label ∷ []) = ap length here in
    subst (IsLabel view.tech)
    (ap (λ (labels : List Label). slice_index_or labels (length (view_at view cell).labels) label) here
    ∙ get_or_push (view_at view cell).labels label label (length (view_at view cell).labels) refl)
    (lawful_labels (labelled view cell label) cell lawful (omega arith) (length (view_at view cell).labels) label (omega arith))

-- and can be added
pub labels : (view : LibraryView) (cell : ℕ) (label : Label) → cell < length view.cells → IsLawfulView (labelled view cell label) → (fault : LibFault)
    → LabelIsRefused view cell label fault → ⊥
labels view cell label there lawful fault =
    let parts = and_parts (has_sides label.area) (is_in_range label.area) (label_is view cell label there lawful).area in
    not_first (λ none. true≢false (sym parts.0 ∙ none))
    (not_first (λ past. true≢false (sym parts.1 ∙ past))
    (not_first (lawful_within (labelled view cell label) Hull lawful) (λ none. none)))

-- ---- answers

-- an edit that was made was not one too many
pub few_edits : (edits : ℕ) → ((fault : LibFault) → EditIsRefused edits NothingElse fault → ⊥) → edits ≡ MOST_EDITS → ⊥
few_edits edits answers full = answers (TooMany Edits) (inl (full, refl))
