-- Where a name is found in a list, and that it is not there where it is not found.
use Rattle.std.proofs.Common.{◌≡◌, ℕ, List, [], get_or, refl, ap, sym, ◌∙◌}
use Rattle.std.specs.Prelude.{position, slice_get, Some, None}
use Rattle.std.specs.Str.{bytes_eq}
use Rattle.std.proofs.lemmas.Iterator.Adapters.{position_from-zero}
use Rattle.std.proofs.lemmas.List.Quantifiers.{position-Some}
use Rattle.std.proofs.lemmas.Option.{slice_get-get_or}
use Rattle.std.proofs.lemmas.Slice.Eq.{bytes_eq-Decides}
use Rattle.finite_sets.specs.Lists.{In}
use Rattle.finite_sets.proofs.Searches.{position_from-none}

-- a name stands where it is found
pub stands_where_found : (names : List (List ℕ)) (name : List ℕ) (number : ℕ) → position (bytes_eq name) names ≡ Some number
    → slice_get names number ≡ Some name
stands_where_found names name number found =
    let place = position-Some (bytes_eq name) names number [] found in
    slice_get-get_or names number [] place.0 ∙ ap (λ (n : List ℕ). Some n) (sym ((bytes_eq-Decides name (get_or names number [])).0 place.1))

-- and nowhere, if it is not found
pub stands_nowhere : (names : List (List ℕ)) (name : List ℕ) → position (bytes_eq name) names ≡ None → In name names → ⊥
stands_nowhere names name none here =
    let fails = position_from-none (bytes_eq name) 0 names name (sym (position_from-zero (bytes_eq name) names) ∙ none) here in
    let passes = (bytes_eq-Decides name name).1 refl in
    cc
