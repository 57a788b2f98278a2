-- Lists of empty lists.
use Rattle.cif_expansion.proofs.Common.{◌≡◌, ℕ, zero, suc, List, [], ◌∷◌, ◌++◌, refl, list_at}

-- one more empty list at the end
pub empty_more : {X : Type 0} (lists : List (List X)) → ((place : ℕ) → list_at lists place ≡ []) → (place : ℕ) → list_at (lists ++ [] ∷ []) place ≡ []
empty_more [] empty zero = refl
empty_more [] empty (suc place) = refl
empty_more (first ∷ lists) empty zero = empty 0
empty_more (first ∷ lists) empty (suc place) = empty_more lists (λ other. empty (suc other)) place
