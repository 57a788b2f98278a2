-- Lists of things that are made of things, one by one.
use Rattle.cell_records.proofs.Common.{◌≡◌, ◌+◌, ◌<◌, ℕ, List, [], ◌∷◌, ◌++◌, length, get_or, inl, inr, sym, ◌∙◌, subst, arith, cases_lt}
use Rattle.std.proofs.lemmas.List.{get_or_default, get_or_append_left, get_or_push}

-- one more
pub made_more : {X Y : Type 0} (IsMade : X → Y → Type 0) (xs : List X) (k : ℕ) (old new : List Y) (d : X) (y : Y) → k < length xs → length old ≡ k
    → ((j : ℕ) (x : X) (z : Y) → j < k → IsMade (get_or xs j x) (get_or old j z)) → IsMade (get_or xs k d) y → new ≡ old ++ y ∷ []
    → (j : ℕ) (x : X) (z : Y) → j < k + 1 → IsMade (get_or xs j x) (get_or new j z)
made_more {X} {Y} IsMade xs k old new d y inside many before is e j x z early =
    subst (λ (v : List Y). IsMade (get_or xs j x) (get_or v j z)) (sym e)
    (elim (cases_lt j k) [
      | inl less ↦ subst (IsMade (get_or xs j x)) (sym (get_or_append_left old (y ∷ []) z j (omega (arith, less, many)))) (before j x z less)
      | inr ge ↦
          (let same : k ≡ j = omega (arith, ge, early) in
          subst (IsMade (get_or xs j x)) (sym (get_or_push old y z j (many ∙ same)))
          (subst (λ (n : ℕ). IsMade (get_or xs n x) y) same (subst (λ (v : X). IsMade v y) (get_or_default xs k d x inside) is)))
    ])
