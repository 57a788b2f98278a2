-- Laws of reading part by part.
use Rattle.std.proofs.Common.{◌≡◌, ◌++◌, ℕ, List, [], ◌∷◌, Result, Ok, Err, refl, sym, ap, subst, ◌∙◌}
use Rattle.text_form.specs.declared.reading.At.{At}
use Rattle.text_form.specs.Folds.{fault_at, unless_faulty}
use Rattle.text_form.specs.Parts.{first_faulty_part_or, IsFirstFaultyPart}
use Rattle.text_form.proofs.FoldLaws.{passed}

-- parts without fault, and more parts behind them
pub first_faulty_part_or-append : {S X F : Type 0} (line_of : X → ℕ) (step : S → X → Result S F) (start : S) (before after : List X) (state : S)
    → first_faulty_part_or line_of step start before ≡ Ok state
    → first_faulty_part_or line_of step start (before ++ after) ≡ first_faulty_part_or line_of step state after
first_faulty_part_or-append line_of step start [] after state e = let same : start ≡ state = cc in ap (λ s. first_faulty_part_or line_of step s after) same
first_faulty_part_or-append line_of step start (part ∷ before) after state e =
    let p = passed (line_of part) (step start part) (λ next. first_faulty_part_or line_of step next before) state e in
    ap (λ found. unless_faulty (line_of part) found (λ next. first_faulty_part_or line_of step next (before ++ after))) p.1
    ∙ first_faulty_part_or-append line_of step p.0 before after state p.2

-- what each part keeps, a text keeps
pub first_faulty_part_or-keeps : {S X F : Type 0} (P : S → Type 0) (line_of : X → ℕ) (step : S → X → Result S F)
    → ((state : S) (part : X) (next : S) → P state → step state part ≡ Ok next → P next)
    → (start : S) (parts : List X) (last : S) → P start → first_faulty_part_or line_of step start parts ≡ Ok last → P last
first_faulty_part_or-keeps P line_of step keeps start [] last holds e = let same : start ≡ last = cc in subst P same holds
first_faulty_part_or-keeps P line_of step keeps start (part ∷ parts) last holds e =
    let p = passed (line_of part) (step start part) (λ next. first_faulty_part_or line_of step next parts) last e in
    first_faulty_part_or-keeps P line_of step keeps p.0 parts last (keeps start part p.0 holds p.1) p.2

-- a first faulty part refuses the text
pub first_faulty_part_or-refused : {S X F : Type 0} (line_of : X → ℕ) (step : S → X → Result S F) (start : S) (parts : List X) (at : At F)
    → IsFirstFaultyPart line_of step start parts at → first_faulty_part_or line_of step start parts ≡ Err at
first_faulty_part_or-refused line_of step start parts at first =
    ap (first_faulty_part_or line_of step start) first.parts_are
    ∙ (first_faulty_part_or-append line_of step start first.before (first.part ∷ first.after) first.state first.fine
    ∙ (ap (λ found. unless_faulty (line_of first.part) found (λ next. first_faulty_part_or line_of step next first.after)) first.faulty
    ∙ ap (λ (k : ℕ). Err (fault_at k at.fault)) (sym first.placed)))

-- the first part refuses, or some part behind it does
first_or_behind : {S X F : Type 0} (line_of : X → ℕ) (step : S → X → Result S F) (start : S) (part : X) (parts : List X) (at : At F) (found : Result S F)
    → ((next : S) → first_faulty_part_or line_of step next parts ≡ Err at → IsFirstFaultyPart line_of step next parts at)
    → step start part ≡ found → unless_faulty (line_of part) found (λ next. first_faulty_part_or line_of step next parts) ≡ Err at
    → IsFirstFaultyPart line_of step start (part ∷ parts) at
first_or_behind line_of step start part parts at (Ok next) rest is e =
    let first = rest next e in
    record {
      before = part ∷ first.before;
      part = first.part;
      after = first.after;
      state = first.state;
      parts_are = ap (λ more. part ∷ more) first.parts_are;
      fine = ap (λ found. unless_faulty (line_of part) found (λ s. first_faulty_part_or line_of step s first.before)) is ∙ first.fine;
      placed = first.placed;
      faulty = first.faulty;
    }
first_or_behind line_of step start part parts at (Err fault) rest is e =
    let same : fault_at (line_of part) fault ≡ at = cc in
    record {
      before = [];
      part = part;
      after = parts;
      state = start;
      parts_are = refl;
      fine = refl;
      placed = sym (ap (λ a. a.line) same);
      faulty = is ∙ ap (λ a. Err a.fault) same;
    }

-- a text is refused at its first faulty part alone
pub first_faulty_part_or-first : {S X F : Type 0} (line_of : X → ℕ) (step : S → X → Result S F) (start : S) (parts : List X) (at : At F)
    → first_faulty_part_or line_of step start parts ≡ Err at → IsFirstFaultyPart line_of step start parts at
first_faulty_part_or-first line_of step start [] at e = absurd (let no : ⊥ = cc in no)
first_faulty_part_or-first line_of step start (part ∷ parts) at e =
    first_or_behind line_of step start part parts at (step start part) (λ next h. first_faulty_part_or-first line_of step next parts at h) refl e
