-- Reports and effects, one after the other.
use Rattle.session_model.proofs.Common.{◌≡◌, ◌+◌, ℕ, suc, Bool, true, false, List, [], ◌∷◌, ◌++◌, length, refl, ◌∙◌, ap, subst, append-nil, arith}
use Rattle.session_model.proofs.Common.{map-append, Option, CallPlan, told_after_call, Files, with_file, Store, ReportLine, Effect, after_fetches}
use Rattle.session_model.proofs.Common.{state_after, with_stores, report_of, Act, LinesMean, acts_of, answers_in, fetched_in, lines_in, stores_in}
use Rattle.std.proofs.lemmas.Grind.{flat_map-append}
use Rattle.std.proofs.lemmas.List.Elements.{filter-append}
use Rattle.std.proofs.lemmas.List.Sums.{fold-append}
use Rattle.std.specs.Prelude.{codes}
use Rattle.session_model.specs.Reports.{is_shown_in_quiet, shown, text_of}

shown-append : (quiet : Bool) (xs ys : List ReportLine) → shown quiet (xs ++ ys) ≡ shown quiet xs ++ shown quiet ys
shown-append true xs ys = filter-append (λ (line : ReportLine). is_shown_in_quiet line.kind) xs ys
shown-append false xs ys = refl

-- the report of lines and then others
pub report_of-append : (quiet : Bool) (xs ys : List ReportLine) → report_of quiet (xs ++ ys) ≡ report_of quiet xs ++ report_of quiet ys
report_of-append quiet xs ys =
    ap text_of (shown-append quiet xs ys) ∙ flat_map-append (λ (line : ReportLine). line.text ++ codes "\n") (shown quiet xs) (shown quiet ys)

pub report_of-nothing : (quiet : Bool) → report_of quiet [] ≡ []
report_of-nothing true = refl
report_of-nothing false = refl

-- the files after stores and then others
pub with_stores-append : (files : Files) (xs ys : List Store) → with_stores files (xs ++ ys) ≡ with_stores (with_stores files xs) ys
with_stores-append files xs ys = fold-append (λ (f : Files) (store : Store). with_file f store.name store.bytes) files xs ys

-- what effects are outside, and then one more
pub acts_and_one : {State : Type 0} (done : List (Effect State)) (next : Effect State)
    → acts_of (done ++ next ∷ []) ≡ acts_of done ++ acts_of (next ∷ [])
acts_and_one done next = map-append _ done (next ∷ [])

pub lines_in-append : (xs ys : List Act) → lines_in (xs ++ ys) ≡ lines_in xs ++ lines_in ys
lines_in-append xs ys = flat_map-append (λ (act : Act). act.lines) xs ys

pub stores_in-append : (xs ys : List Act) → stores_in (xs ++ ys) ≡ stores_in xs ++ stores_in ys
stores_in-append xs ys = flat_map-append (λ (act : Act). act.stores) xs ys

fetched_in-append : (xs ys : List Act) → fetched_in (xs ++ ys) ≡ fetched_in xs ++ fetched_in ys
fetched_in-append xs ys = flat_map-append (λ (act : Act). act.fetched) xs ys

-- the lines, the stores and the names of effects and then one more
pub lines_and_last : {State : Type 0} (done : List (Effect State)) (next : Effect State)
    → lines_in (acts_of (done ++ next ∷ [])) ≡ lines_in (acts_of done) ++ next.lines
lines_and_last done next =
    ap lines_in (acts_and_one done next) ∙ lines_in-append (acts_of done) (acts_of (next ∷ []))
    ∙ ap (λ (xs : List ReportLine). lines_in (acts_of done) ++ xs) (append-nil next.lines)

pub stores_and_last : {State : Type 0} (done : List (Effect State)) (next : Effect State)
    → stores_in (acts_of (done ++ next ∷ [])) ≡ stores_in (acts_of done) ++ next.stores
stores_and_last done next =
    ap stores_in (acts_and_one done next) ∙ stores_in-append (acts_of done) (acts_of (next ∷ []))
    ∙ ap (λ (xs : List Store). stores_in (acts_of done) ++ xs) (append-nil next.stores)

pub fetched_and_last : {State : Type 0} (done : List (Effect State)) (next : Effect State)
    → fetched_in (acts_of (done ++ next ∷ [])) ≡ fetched_in (acts_of done) ++ next.fetched
fetched_and_last done next =
    ap fetched_in (acts_and_one done next) ∙ fetched_in-append (acts_of done) (acts_of (next ∷ []))
    ∙ ap (λ (xs : List (List ℕ)). fetched_in (acts_of done) ++ xs) (append-nil next.fetched)

-- the files and the state after effects, and then one more
pub files_and_last : {State : Type 0} (files : Files) (done : List (Effect State)) (next : Effect State)
    → with_stores files (stores_in (acts_of (done ++ next ∷ []))) ≡ with_stores (with_stores files (stores_in (acts_of done))) next.stores
files_and_last files done next = ap (with_stores files) (stores_and_last done next) ∙ with_stores-append files (stores_in (acts_of done)) next.stores

pub state_and_last : {State : Type 0} (first : State) (done : List (Effect State)) (next : Effect State)
    → state_after first (done ++ next ∷ []) ≡ next.state
state_and_last {State} first done next = fold-append (λ (s : State) (e : Effect State). e.state) first done (next ∷ [])

pub fetches-append : (plan : Option CallPlan) (xs ys : List (List ℕ)) → after_fetches plan (xs ++ ys) ≡ after_fetches (after_fetches plan xs) ys
fetches-append plan xs ys = fold-append (λ (p : Option CallPlan) (name : List ℕ). told_after_call p) plan xs ys

pub answers_and_last : {State : Type 0} (done : List (Effect State)) (next : Effect State)
    → answers_in (acts_of (done ++ next ∷ [])) ≡ answers_in (acts_of done) ++ next.lines ∷ []
answers_and_last {State} done next =
    ap answers_in (map-append _ done (next ∷ [])) ∙ map-append (λ (act : Act). act.lines) (acts_of done) (acts_of (next ∷ []))

-- What lines mean, and then one more, is what they mean together.
pub lines_and_one : {State : Type 0} (Means : ℕ → State → Files → List ℕ → Effect State → Type 0)
    (number : ℕ) (state : State) (files : Files) (past : List (List ℕ)) (line : List ℕ) (done : List (Effect State)) (next : Effect State)
    → LinesMean Means number state files past done
    → Means (number + length past) (state_after state done) (with_stores files (stores_in (acts_of done))) line next
    → LinesMean Means number state files (past ++ line ∷ []) (done ++ next ∷ [])
lines_and_one {State} Means number state files [] line done next means one =
    let at : List (Effect State) → Type 0 = λ es. Means (number + 0) (state_after state es) (with_stores files (stores_in (acts_of es))) line next in
    let here : Means (number + 0) state files line next = subst at means one in
    let same : number + 0 ≡ number = omega arith in
    (next, [], ap (λ (es : List (Effect State)). es ++ next ∷ []) means, subst (λ (n : ℕ). Means n state files line next) same here, refl)
lines_and_one {State} Means number state files (first ∷ past) line done next (effect, rest, are, means, more) one =
    let same : number + suc (length past) ≡ number + 1 + length past = omega arith in
    let here = subst (λ (n : ℕ). Means n (state_after state done) (with_stores files (stores_in (acts_of done))) line next) same one in
    let at : List (Effect State) → Type 0 = λ es. Means (number + 1 + length past) (state_after state es) (with_stores files (stores_in (acts_of es))) line
    next in
    let there : Means (number + 1 + length past) (state_after effect.state rest) (with_stores files (effect.stores ++ stores_in (acts_of rest))) line next =
    subst at are here in
    let stored = subst (λ (f : Files). Means (number + 1 + length past) (state_after effect.state rest) f line next)
    (with_stores-append files effect.stores (stores_in (acts_of rest))) there in (
      effect,
      rest ++ next ∷ [],
      ap (λ (es : List (Effect State)). es ++ next ∷ []) are,
      means,
      lines_and_one Means (number + 1) effect.state
          (with_stores files effect.stores) past line rest next more stored,
    )
