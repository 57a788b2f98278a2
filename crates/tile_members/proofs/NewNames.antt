-- Names that are looked for in an index.
use Rattle.tile_members.proofs.Common.{◌≡◌, ◌++◌, ℕ, false, List, [], ◌∷◌, length, Some, None, inl, inr, refl, sym, subst, position, slice_get}
use Rattle.tile_members.proofs.Common.{list_any, bytes_eq, bytes_eq-Decides, AddsName}
use Rattle.finite_sets.proofs.Searches.{list_any-of_absent}
use Rattle.finite_sets.proofs.Places.{slice_get-push_new}
use Rattle.name_index.proofs.Positions.{stands_where_found, stands_nowhere}

-- a name that is not found is not there
pub not_found : (names : List (List ℕ)) (name : List ℕ) → position (bytes_eq name) names ≡ None → list_any (bytes_eq name) names ≡ false
not_found names name none =
    list_any-of_absent bytes_eq bytes_eq-Decides name names (stands_nowhere names name none)

-- a name that is found adds none
pub adds_found : (names : List (List ℕ)) (name : List ℕ) (number : ℕ) → position (bytes_eq name) names ≡ Some number
    → AddsName names names name number
adds_found names name number found = record { there = stands_where_found names name number found; added = inl refl }

-- a new name comes behind the others
pub adds_new : (old new : List (List ℕ)) (name : List ℕ) (number : ℕ) → new ≡ old ++ name ∷ [] → number ≡ length old → AddsName old new name number
adds_new old new name number more last = record {
  there = subst (λ (names : List (List ℕ)). slice_get names number ≡ Some name) (sym more)
      (subst (λ (n : ℕ). slice_get (old ++ name ∷ []) n ≡ Some name) (sym last) (slice_get-push_new old name));
  added = inr (more, last);
}
