-- Laws of texts each line of which says something by itself.
use Rattle.std.proofs.Common.{◌≡◌, ◌+◌, ◌≤◌, ℕ, List, [], ◌∷◌, map, Result, Ok, Err, refl, ap, ◌∙◌, arith}
use Rattle.std.specs.Prelude.{fold}
use Rattle.std.specs.List.{AllByRecursion}
use Rattle.text_form.specs.Folds.{unless_faulty, first_fault_or}
use Rattle.text_form.specs.SaidLines.{and_then, saying, AreSaid}
use Rattle.text_form.proofs.FoldLaws.{passed}

later : {X F : Type 0} (says : ℕ → List ℕ → Result X F) (write : X → List ℕ) (number : ℕ) (said : List X)
    → AllByRecursion (λ x. (k : ℕ) → number ≤ k → says k (write x) ≡ Ok x) said → AllByRecursion (λ x. (k : ℕ) → number + 1 ≤ k → says k (write x) ≡ Ok x) said
later says write number [] all = all
later says write number (x ∷ said) all = (λ k above. all.0 k (omega arith), later says write number said all.1)

-- lines that are told alone, and each written as what it says, are read as what they say
pub reads_said : {S X F : Type 0} (says : ℕ → List ℕ → Result X F) (add : S → X → S) (write : X → List ℕ) (number : ℕ) (start : S) (said : List X)
    → AllByRecursion (λ x. (k : ℕ) → number ≤ k → says k (write x) ≡ Ok x) said
    → first_fault_or (saying says add) number start (map write said) ≡ Ok (fold add start said)
reads_said says add write number start [] all = refl
reads_said says add write number start (x ∷ said) all =
    let line : saying says add number start (write x) ≡ Ok (add start x) = ap (λ found. and_then found (λ y. Ok (add start y))) (all.0 number (omega arith)) in
    ap (λ found. unless_faulty number found (λ next. first_fault_or (saying says add) (number + 1) next (map write said))) line
    ∙ reads_said says add write (number + 1) (add start x) said (later says write number said all.1)

-- lines that say this give what they say
pub read_said : {S X F : Type 0} (says : ℕ → List ℕ → Result X F) (add : S → X → S) (number : ℕ) (start : S) (lines : List (List ℕ)) (said : List X)
    → AreSaid says number lines said → first_fault_or (saying says add) number start lines ≡ Ok (fold add start said)
read_said says add number start [] [] are = refl
read_said says add number start [] (x ∷ said) are = absurd are
read_said says add number start (line ∷ lines) [] are = absurd are
read_said says add number start (line ∷ lines) (x ∷ said) are =
    let is : saying says add number start line ≡ Ok (add start x) = ap (λ found. and_then found (λ y. Ok (add start y))) are.0 in
    ap (λ found. unless_faulty number found (λ next. first_fault_or (saying says add) (number + 1) next lines)) is
    ∙ read_said says add (number + 1) (add start x) lines said are.1

told : {S X F : Type 0} (add : S → X → S) (start : S) (found : Result X F) (next : S) → and_then found (λ x. Ok (add start x)) ≡ Ok next
    → (x : X) × (found ≡ Ok x) × (add start x ≡ next)
told add start (Ok x) next e = (x, refl, (let is : add start x ≡ next = cc in is))
told add start (Err fault) next e = absurd (let no : ⊥ = cc in no)

-- what lines without fault say
pub said_of : {S X F : Type 0} (says : ℕ → List ℕ → Result X F) (add : S → X → S) (number : ℕ) (start : S) (lines : List (List ℕ)) (last : S)
    → first_fault_or (saying says add) number start lines ≡ Ok last → (said : List X) × AreSaid says number lines said × (fold add start said ≡ last)
said_of says add number start [] last e = ([], tt, (let is : start ≡ last = cc in is))
said_of says add number start (line ∷ lines) last e =
    let p = passed number (saying says add number start line) (λ next. first_fault_or (saying says add) (number + 1) next lines) last e in
    let t = told add start (says number line) p.0 p.1 in
    let rest = said_of says add (number + 1) p.0 lines last p.2 in
    (t.0 ∷ rest.0, (t.1, rest.1), ap (λ s. fold add s rest.0) t.2 ∙ rest.2)

-- and back: lines that say this give what it adds up to
pub read_said_as : {S X F : Type 0} (says : ℕ → List ℕ → Result X F) (add : S → X → S) (number : ℕ) (start : S) (lines : List (List ℕ)) (last : S)
    → ((said : List X) × AreSaid says number lines said × (fold add start said ≡ last)) → first_fault_or (saying says add) number start lines ≡ Ok last
read_said_as says add number start lines last given =
    read_said says add number start lines given.0 given.1 ∙ ap Ok given.2
