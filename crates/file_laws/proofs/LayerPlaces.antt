-- Layers stand where they were first named.
use Rattle.file_laws.proofs.Common.{◌≡◌, ◌<◌, ◌+◌, ℕ, true, false, List, [], ◌∷◌, ◌++◌, length, Some, refl, sym, ap, ◌∙◌, arith, inl, inr, slice_get}
use Rattle.file_laws.proofs.Common.{list_any, bytes_eq, cases_Bool, In, In-slice_get, with_layer, layer_place}
use Rattle.std.proofs.lemmas.Slice.Eq.{bytes_eq-Decides}
use Rattle.finite_sets.proofs.Places.{slice_get-append_front, slice_get-append_left, slice_get-push_new}
use Rattle.finite_sets.proofs.Searches.{In-from_list_any, list_any-In, list_any-of_In}
use Rattle.finite_sets.proofs.FirstPlaces.{first_place, found_at, no_place}
use Rattle.cif_reading.proofs.PlaceLaws.{with_layer-new, with_layer-there}

module _ (name : List ℕ) (layers : List (List ℕ)) where
  -- a layer that is there stands at its place among the layers with it
  pub layer_named : slice_get (with_layer name layers) (layer_place name layers) ≡ Some name
  layer_named = elim (cases_Bool (list_any (bytes_eq name) layers)) [
    | inl there ↦
        ap (λ (all : List (List ℕ)). slice_get all (layer_place name layers)) (sym (with_layer-there name layers there))
        ∙ found_at bytes_eq bytes_eq-Decides name layers (In-from_list_any bytes_eq bytes_eq-Decides name layers there)
    | inr new ↦
        ap (λ (all : List (List ℕ)). slice_get all (layer_place name layers)) (with_layer-new name layers new)
        ∙ ap (slice_get (layers ++ name ∷ [])) (no_place (bytes_eq name) layers new) ∙ slice_get-push_new layers name
  ]

  -- it is among them
  pub layer_there : list_any (bytes_eq name) (with_layer name layers) ≡ true
  layer_there =
      list_any-of_In bytes_eq bytes_eq-Decides name (with_layer name layers)
      (In-slice_get (with_layer name layers) (layer_place name layers) name layer_named)

  -- all others stand where they stood
  pub layers_kept : (k : ℕ) (other : List ℕ) → slice_get layers k ≡ Some other → slice_get (with_layer name layers) k ≡ Some other
  layers_kept k other at = elim (cases_Bool (list_any (bytes_eq name) layers)) [
    | inl there ↦ ap (λ (all : List (List ℕ)). slice_get all k) (sym (with_layer-there name layers there)) ∙ at
    | inr new ↦
        ap (λ (all : List (List ℕ)). slice_get all k) (with_layer-new name layers new) ∙ slice_get-append_left layers (name ∷ []) k other at
  ]

  -- and it has the same place among them
  pub layer_place_kept : layer_place name (with_layer name layers) ≡ layer_place name layers
  layer_place_kept = elim (cases_Bool (list_any (bytes_eq name) layers)) [
    | inl there ↦ ap (layer_place name) (sym (with_layer-there name layers there))
    | inr new ↦
        first_place (bytes_eq name) (with_layer name layers) (layer_place name layers) name layer_named ((bytes_eq-Decides name name).1 refl)
        (λ j other less at. list_any-In (bytes_eq name) layers other new (earlier new j other less at))
  ]
    where
      earlier : list_any (bytes_eq name) layers ≡ false → (j : ℕ) (other : List ℕ) → j < layer_place name layers
          → slice_get (with_layer name layers) j ≡ Some other → In other layers
      earlier new j other less at =
          let end : layer_place name layers ≡ length layers = no_place (bytes_eq name) layers new in
          In-slice_get layers j other
          (sym (slice_get-append_front layers (name ∷ []) j (omega arith)) ∙ ap (λ (all : List (List ℕ)). slice_get all j)
          (sym (with_layer-new name layers new)) ∙ at)
