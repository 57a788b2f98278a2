-- Laws of reading line by line.
use Rattle.std.proofs.Common.{◌≡◌, ◌+◌, ℕ, List, [], ◌∷◌, ◌++◌, length, Result, Ok, Err, refl, sym, ap, subst, ◌∙◌, arith}
use Rattle.text_form.specs.declared.reading.At.{At}
use Rattle.text_form.specs.Folds.{fault_at, unless_faulty, first_fault_or, last_number, ended_at, finished, text_state}
use Rattle.text_form.specs.FirstFaults.{IsFirstFault}

-- where the lines are without fault, what the whole gives is what its end gives
pub text_state-ended : {S R F : Type 0} (step : ℕ → S → List ℕ → Result S F) (finish : S → Result R F) (start : S) (lines : List (List ℕ)) (last : S)
    → first_fault_or step 1 start lines ≡ Ok last → text_state step finish start lines ≡ ended_at (last_number lines) (finish last)
text_state-ended step finish start lines last e = ap (finished finish (last_number lines)) e

-- a line that does not refuse the text is without fault
pub passed : {S R F : Type 0} (number : ℕ) (found : Result S F) (next : S → Result R (At F)) (last : R)
    → unless_faulty number found next ≡ Ok last → (state : S) × (found ≡ Ok state) × (next state ≡ Ok last)
passed number (Ok state) next last e = (state, refl, e)
passed number (Err fault) next last e = absurd (let no : ⊥ = cc in no)

-- lines without fault, and more lines behind them
pub first_fault_or-append : {S F : Type 0} (step : ℕ → S → List ℕ → Result S F) (number : ℕ) (start : S) (before after : List (List ℕ)) (state : S)
    → first_fault_or step number start before ≡ Ok state
    → first_fault_or step number start (before ++ after) ≡ first_fault_or step (number + length before) state after
first_fault_or-append step number start [] after state e =
    let same : start ≡ state = cc in
    let nil : List (List ℕ) = [] in
    let none : number + length nil ≡ number = omega arith in
    ap (λ s. first_fault_or step number s after) same ∙ ap (λ (k : ℕ). first_fault_or step k state after) (sym none)
first_fault_or-append step number start (line ∷ before) after state e =
    let p = passed number (step number start line) (λ next. first_fault_or step (number + 1) next before) state e in
    let count : (number + 1) + length before ≡ number + length (line ∷ before) = omega arith in
    ap (λ found. unless_faulty number found (λ next. first_fault_or step (number + 1) next (before ++ after))) p.1
    ∙ (first_fault_or-append step (number + 1) p.0 before after state p.2 ∙ ap (λ (k : ℕ). first_fault_or step k state after) count)

-- what each line keeps, a text keeps
pub first_fault_or-keeps : {S F : Type 0} (P : S → Type 0) (step : ℕ → S → List ℕ → Result S F)
    → ((number : ℕ) (state : S) (line : List ℕ) (next : S) → P state → step number state line ≡ Ok next → P next)
    → (number : ℕ) (start : S) (lines : List (List ℕ)) (last : S) → P start → first_fault_or step number start lines ≡ Ok last → P last
first_fault_or-keeps P step keeps number start [] last holds e = let same : start ≡ last = cc in subst P same holds
first_fault_or-keeps P step keeps number start (line ∷ lines) last holds e =
    let p = passed number (step number start line) (λ next. first_fault_or step (number + 1) next lines) last e in
    first_fault_or-keeps P step keeps (number + 1) p.0 lines last (keeps number start line p.0 holds p.1) p.2

-- a first faulty line refuses the text
pub first_fault_or-refused : {S F : Type 0} (step : ℕ → S → List ℕ → Result S F) (number : ℕ) (start : S) (lines : List (List ℕ)) (at : At F)
    → IsFirstFault step number start lines at → first_fault_or step number start lines ≡ Err at
first_fault_or-refused step number start lines at first =
    let there = number + length first.before in
    ap (first_fault_or step number start) first.lines_are
    ∙ (first_fault_or-append step number start first.before (first.line ∷ first.after) first.state first.fine
    ∙ (ap (λ found. unless_faulty there found (λ next. first_fault_or step (there + 1) next first.after)) first.faulty
    ∙ ap (λ (k : ℕ). Err (fault_at k at.fault)) (sym first.numbered)))

-- what is told of the lines behind a line without fault
behind : {S F : Type 0} (step : ℕ → S → List ℕ → Result S F) (number : ℕ) (start : S) (line : List ℕ) (lines : List (List ℕ)) (next : S) (at : At F)
    → step number start line ≡ Ok next → IsFirstFault step (number + 1) next lines at → IsFirstFault step number start (line ∷ lines) at
behind step number start line lines next at fine first =
    let count : (number + 1) + length first.before ≡ number + length (line ∷ first.before) = omega arith in
    record {
      before = line ∷ first.before;
      line = first.line;
      after = first.after;
      state = first.state;
      lines_are = ap (λ rest. line ∷ rest) first.lines_are;
      fine = ap (λ found. unless_faulty number found (λ s. first_fault_or step (number + 1) s first.before)) fine ∙ first.fine;
      numbered = first.numbered ∙ count;
      faulty = ap (λ (k : ℕ). step k first.state first.line) (sym count) ∙ first.faulty;
    }

first_is : {S F : Type 0} (step : ℕ → S → List ℕ → Result S F) (number : ℕ) (start : S) (line : List ℕ) (lines : List (List ℕ)) (fault : F) (at : At F)
    → step number start line ≡ Err fault → fault_at number fault ≡ at → IsFirstFault step number start (line ∷ lines) at
first_is step number start line lines fault at faulty is =
    let nil : List (List ℕ) = [] in
    let none : number + length nil ≡ number = omega arith in
    record {
      before = [];
      line = line;
      after = lines;
      state = start;
      lines_are = refl;
      fine = refl;
      numbered = sym (ap (λ a. a.line) is) ∙ sym none;
      faulty = ap (λ (k : ℕ). step k start line) none ∙ (faulty ∙ ap (λ a. Err a.fault) is);
    }

first_at : {S F : Type 0} (step : ℕ → S → List ℕ → Result S F) (number : ℕ) (start : S) (line : List ℕ) (lines : List (List ℕ)) (at : At F) (found : Result S F)
    → ((next : S) → first_fault_or step (number + 1) next lines ≡ Err at → IsFirstFault step (number + 1) next lines at)
    → step number start line ≡ found → unless_faulty number found (λ next. first_fault_or step (number + 1) next lines) ≡ Err at
    → IsFirstFault step number start (line ∷ lines) at
first_at step number start line lines at (Ok next) rest is e = behind step number start line lines next at is (rest next e)
first_at step number start line lines at (Err fault) rest is e =
    first_is step number start line lines fault at is (let same : fault_at number fault ≡ at = cc in same)

-- a text is refused at its first faulty line alone
pub first_fault_or-first : {S F : Type 0} (step : ℕ → S → List ℕ → Result S F) (number : ℕ) (start : S) (lines : List (List ℕ)) (at : At F)
    → first_fault_or step number start lines ≡ Err at → IsFirstFault step number start lines at
first_fault_or-first step number start [] at e = absurd (let no : ⊥ = cc in no)
first_fault_or-first step number start (line ∷ lines) at e =
    first_at step number start line lines at (step number start line) (λ next h. first_fault_or-first step (number + 1) next lines at h) refl e

ended : {R F : Type 0} (number : ℕ) (found : Result R F) (whole : R) → ended_at number found ≡ Ok whole → found ≡ Ok whole
ended number (Ok x) whole e = let is : x ≡ whole = cc in ap Ok is
ended number (Err fault) whole e = absurd (let no : ⊥ = cc in no)

whole_of : {S R F : Type 0} (finish : S → Result R F) (last : ℕ) (found : Result S (At F)) (whole : R)
    → finished finish last found ≡ Ok whole → (state : S) × (found ≡ Ok state) × (finish state ≡ Ok whole)
whole_of finish last (Ok state) whole e = (state, refl, ended last (finish state) whole e)
whole_of finish last (Err at) whole e = absurd (let no : ⊥ = cc in no)

-- a text without fault: its lines are without fault, and so is its end
pub text_state-Ok : {S R F : Type 0} (step : ℕ → S → List ℕ → Result S F) (finish : S → Result R F) (start : S) (lines : List (List ℕ)) (whole : R)
    → text_state step finish start lines ≡ Ok whole → (state : S) × (first_fault_or step 1 start lines ≡ Ok state) × (finish state ≡ Ok whole)
text_state-Ok step finish start lines whole e = whole_of finish (last_number lines) (first_fault_or step 1 start lines) whole e
