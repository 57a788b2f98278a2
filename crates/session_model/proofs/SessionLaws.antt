-- What is left of a run belongs to each session that its script means.
use Rattle.session_model.proofs.Common.{◌≡◌, ◌⊎◌, inl, inr, ◌+◌, ℕ, suc, Bool, List, [], ◌∷◌, ◌++◌, length, refl, sym, ◌∙◌, ap, subst, append_assoc}
use Rattle.session_model.proofs.Common.{arith, map-append, Files, with_file, Store, Effect, state_after, with_stores, BeginsNext, DoesPart}
use Rattle.session_model.proofs.Common.{IsPrefixOf, Progress, StoresSome, report_of, Act, LinesMean, acts_of, lines_in, stores_in}
use Rattle.session_model.specs.Progress.{DoesFirst, IsCutShort}
use Rattle.session_model.specs.Scripts.{HasOneEffect, ScriptActs}
use Rattle.session_model.proofs.EffectLaws.{lines_in-append, report_of-append, stores_in-append, with_stores-append}
use Rattle.session_model.proofs.StoreLaws.{StoresSome-after}

-- no store is made yet
pub no_stores : (Fails : Type 0) (files : Files) (stores : List Store) (after : Files) → after ≡ files → StoresSome Fails files stores after
no_stores Fails files [] after same = same
no_stores Fails files (store ∷ stores) after same = inl same

module _ {State : Type 0} (Seen Means : ℕ → State → Files → List ℕ → Effect State → Type 0) (one : HasOneEffect Seen Means) where
  -- What lines were seen to do is what all that they can mean begins with, and then comes what the others mean.
  pub same_beginning : (number : ℕ) (state : State) (files : Files) (past left : List (List ℕ)) (done whole : List (Effect State))
      → LinesMean Seen number state files past done → LinesMean Means number state files (past ++ left) whole
      → (rest : List (Effect State)) × (whole ≡ done ++ rest)
      × LinesMean Means (number + length past) (state_after state done) (with_stores files (stores_in (acts_of done))) left rest
  same_beginning number state files [] left done whole none means =
      let same : number ≡ number + 0 = omega arith in
      let here = subst (λ (n : ℕ). LinesMean Means n state files left whole) same means in
      let at : List (Effect State) → Type 0 = λ es. LinesMean Means (number + 0) (state_after state es) (with_stores files (stores_in (acts_of es))) left
      whole in
      (whole, ap (λ (es : List (Effect State)). es ++ whole) (sym none), subst at (sym none) here)
  same_beginning number state files (line ∷ past) left done whole (effect, more, are, seen, others) (first, rest, all, means, behind) =
      let is : first ≡ effect = sym (one number state files line effect first seen means) in
      let at : Effect State → Type 0 = λ e. LinesMean Means (number + 1) e.state (with_stores files e.stores) (past ++ left) rest in
      let (left_of, splits, remain) = same_beginning (number + 1) effect.state (with_stores files effect.stores) past left more rest others
      (subst at is behind) in
      let numbered : number + 1 + length past ≡ number + suc (length past) = omega arith in
      let stored = subst (λ (f : Files). LinesMean Means (number + 1 + length past) (state_after effect.state more) f left left_of)
      (sym (with_stores-append files effect.stores (stores_in (acts_of more)))) remain in
      let counted = subst (λ (n : ℕ). LinesMean Means n (state_after effect.state more) (with_stores files (effect.stores ++ stores_in (acts_of more))) left
      left_of) numbered stored in
      let to : List (Effect State) → Type 0 = λ es.
      LinesMean Means (number + suc (length past)) (state_after state es) (with_stores files (stores_in (acts_of es))) left left_of in (
        left_of,
        all ∙ ap (λ (e : Effect State). e ∷ rest) is ∙ ap (λ (es : List (Effect State)). effect ∷ es) splits
            ∙ ap (λ (es : List (Effect State)). es ++ left_of) (sym are),
        subst to (sym are) counted,
      )

  -- a line that was begun is begun as each session means it
  same_next : (quiet : Bool) (Fails : Type 0) (number : ℕ) (state : State) (files : Files) (left : List (List ℕ)) (rest : List (Effect State))
      (front : List ℕ) (after : Files) → LinesMean Means number state files left rest
      → BeginsNext Seen quiet Fails number state files left front after → DoesFirst quiet Fails files (acts_of rest) front after
  same_next quiet Fails number state files [] rest front after none next =
      subst (λ (es : List (Effect State)). DoesFirst quiet Fails files (acts_of es) front after) (sym none) next
  same_next quiet Fails number state files (line ∷ left) rest front after (first, more, are, means, others) (inl (nothing, same)) =
      subst (λ (es : List (Effect State)). DoesFirst quiet Fails files (acts_of es) front after) (sym are)
      (inl (nothing, no_stores Fails files first.stores after same))
  same_next quiet Fails number state files (line ∷ left) rest front after (first, more, are, means, others) (inr (effect, seen, part)) =
      subst (λ (es : List (Effect State)). DoesFirst quiet Fails files (acts_of es) front after) (sym are)
      (subst (λ (e : Effect State). DoesPart quiet Fails files e.lines e.stores front after) (one number state files line effect first seen means) part)

  -- A run that came so far cut short whatever session its script means.
  pub cut_short : (quiet : Bool) (Fails : Type 0) (first : State) (files : Files) (lines : List (List ℕ)) (reported : List ℕ) (after : Files)
      → Progress Seen quiet Fails first files lines reported after
      → (acts : List Act) → ScriptActs Means first files lines acts → IsCutShort quiet Fails files acts reported after
  cut_short quiet Fails first files lines reported after way acts (effects, mean, are) =
      let (rest, splits, others) = same_beginning 1 first files way.past way.left way.done effects way.means
      (subst (λ (ls : List (List ℕ)). LinesMean Means 1 first files ls effects) way.split mean) in
      record {
        past = acts_of way.done;
        left = acts_of rest;
        split = are ∙ ap acts_of splits ∙ map-append _ way.done rest;
        front = way.front;
        next = same_next quiet Fails (1 + length way.past) (state_after first way.done) (with_stores files (stores_in (acts_of way.done))) way.left rest
            way.front after others way.next;
        reported = way.reported;
      }

-- some of the first stores are some of all
some_of_more : (Fails : Type 0) (files : Files) (stores more : List Store) (after : Files) → StoresSome Fails files stores after
    → StoresSome Fails files (stores ++ more) after
some_of_more Fails files [] more after same = no_stores Fails files more after same
some_of_more Fails files (store ∷ stores) more after (inl same) = inl same
some_of_more Fails files (store ∷ stores) more after (inr (inl failed)) = inr (inl failed)
some_of_more Fails files (store ∷ stores) more after (inr (inr some)) =
    inr (inr (some_of_more Fails (with_file files store.name store.bytes) stores more after some))

-- all of the first stores are some of all
all_are_some : (Fails : Type 0) (files : Files) (stores more : List Store) → StoresSome Fails files (stores ++ more) (with_stores files stores)
all_are_some Fails files [] more = no_stores Fails files more files refl
all_are_some Fails files (store ∷ stores) more = inr (inr (all_are_some Fails (with_file files store.name store.bytes) stores more))

first_stores : (quiet : Bool) (Fails : Type 0) (files : Files) (acts : List Act) (front : List ℕ) (after : Files)
    → DoesFirst quiet Fails files acts front after → StoresSome Fails files (stores_in acts) after
first_stores quiet Fails files [] front after (nothing, same) = same
first_stores quiet Fails files (act ∷ acts) front after (inl (nothing, some)) = some_of_more Fails files act.stores (stores_in acts) after some
first_stores quiet Fails files (act ∷ acts) front after (inr (begun, same)) =
    subst (λ (f : Files). StoresSome Fails files (act.stores ++ stores_in acts) f) (sym same) (all_are_some Fails files act.stores (stores_in acts))

first_lines : (quiet : Bool) (Fails : Type 0) (files : Files) (acts : List Act) (front : List ℕ) (after : Files)
    → DoesFirst quiet Fails files acts front after → IsPrefixOf front (report_of quiet (lines_in acts))
first_lines quiet Fails files [] front after (nothing, same) = (report_of quiet [], ap (λ (xs : List ℕ). xs ++ report_of quiet []) (sym nothing))
first_lines quiet Fails files (act ∷ acts) front after (inl (nothing, some)) =
    (report_of quiet (lines_in (act ∷ acts)), ap (λ (xs : List ℕ). xs ++ report_of quiet (lines_in (act ∷ acts))) (sym nothing))
first_lines quiet Fails files (act ∷ acts) front after (inr ((behind, is), same)) = (
  behind ++ report_of quiet (lines_in acts),
  report_of-append quiet act.lines (lines_in acts) ∙ ap (λ (xs : List ℕ). xs ++ report_of quiet (lines_in acts)) is
      ∙ append_assoc front behind (report_of quiet (lines_in acts)),
)

-- What is reported of a session that was cut short is the beginning of its report.
pub report_is_prefix : (quiet : Bool) (Fails : Type 0) (files : Files) (acts : List Act) (reported : List ℕ) (after : Files)
    → IsCutShort quiet Fails files acts reported after → IsPrefixOf reported (report_of quiet (lines_in acts))
report_is_prefix quiet Fails files acts reported after cut =
    let (behind, is) = first_lines quiet Fails (with_stores files (stores_in cut.past)) cut.left cut.front after cut.next in (
      behind,
      ap (λ (all : List Act). report_of quiet (lines_in all)) cut.split ∙ ap (report_of quiet) (lines_in-append cut.past cut.left)
          ∙ report_of-append quiet (lines_in cut.past) (lines_in cut.left)
          ∙ ap (λ (xs : List ℕ). report_of quiet (lines_in cut.past) ++ xs) is
          ∙ sym (append_assoc (report_of quiet (lines_in cut.past)) cut.front behind)
          ∙ ap (λ (xs : List ℕ). xs ++ behind) (sym cut.reported),
    )

-- The files that it leaves are those after a first few of its stores, but for the name of the one that failed.
pub files_after_some : (quiet : Bool) (Fails : Type 0) (files : Files) (acts : List Act) (reported : List ℕ) (after : Files)
    → IsCutShort quiet Fails files acts reported after → StoresSome Fails files (stores_in acts) after
files_after_some quiet Fails files acts reported after cut =
    subst (λ (all : List Act). StoresSome Fails files (stores_in all) after) (sym cut.split)
    (subst (λ (ss : List Store). StoresSome Fails files ss after) (sym (stores_in-append cut.past cut.left))
    (StoresSome-after Fails files (stores_in cut.past) (stores_in cut.left) after
    (first_stores quiet Fails (with_stores files (stores_in cut.past)) cut.left cut.front after cut.next)))
