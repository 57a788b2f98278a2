-- What is read of the boxes of a part.
use Rattle.file_laws.proofs.Common.{◌≡◌, ◌≢◌, ◌<◌, ℕ, true, List, [], ◌∷◌, ◌++◌, map, Option, Some, refl, sym, subst, append_assoc, append-nil, inl}
use Rattle.file_laws.proofs.Common.{inr, slice_get, list_any, bytes_eq, In, Rect, CifItem, Area, CifSymbol, with_layer, layer_place, box_command}
use Rattle.file_laws.proofs.Common.{layer_command, part_name}
use Rattle.cif_reading.proofs.PlaceLaws.{with_layer-there}
use Rattle.cif_writing.specs.Commands.{part_lines}
use Rattle.file_laws.proofs.LayerPlaces.{layer_named, layer_place_kept, layer_there, layers_kept}
use Rattle.file_laws.proofs.HalfNumbers.{IsNearBox}
use Rattle.file_laws.proofs.ReadCommands.{box_read_in, in_symbol, layer_read}
use Rattle.file_laws.proofs.ReadLines.{Reads, reads_none, reads_then}

-- All layers stand where they stood before.
abbrev pub KeepsLayers : List (List ℕ) → List (List ℕ) → Type 0
KeepsLayers old new = (k : ℕ) (name : List ℕ) → slice_get old k ≡ Some name → slice_get new k ≡ Some name

-- boxes of a layer that is among the layers
boxes_read : (areas : List Rect) → ((area : Rect) → In area areas → IsNearBox area) → (number : ℕ) (name : List ℕ) (layers : List (List ℕ))
    → list_any (bytes_eq name) layers ≡ true → (symbols : List CifSymbol) (items : List CifItem)
    → Reads (map box_command areas) (in_symbol number (Some name) layers symbols items)
    (in_symbol number (Some name) layers symbols (items ++ map (Area (layer_place name layers)) areas))
boxes_read [] near number name layers there symbols items =
    let old = in_symbol number (Some name) layers symbols items in
    subst (λ (all : List CifItem). Reads [] old (in_symbol number (Some name) layers symbols all)) (sym (append-nil items)) (reads_none old)
boxes_read (area ∷ areas) near number name layers there symbols items =
    let old = in_symbol number (Some name) layers symbols items in
    let item : CifItem = Area (layer_place name layers) area in
    let first : Reads (box_command area ∷ []) old (in_symbol number (Some name) layers symbols (items ++ item ∷ [])) =
    subst (λ (all : List (List ℕ)). Reads (box_command area ∷ []) old (in_symbol number (Some name) all symbols (items ++ item ∷ [])))
    (sym (with_layer-there name layers there)) (box_read_in area (near area (inl refl)) number name layers symbols items) in
    let rest = boxes_read areas (λ other among. near other (inr among)) number name layers there symbols (items ++ item ∷ []) in
    subst (λ (all : List CifItem). Reads (map box_command (area ∷ areas)) old (in_symbol number (Some name) layers symbols all))
    (append_assoc items (item ∷ []) (map (Area (layer_place name layers)) areas))
    (reads_then (box_command area ∷ []) (map box_command areas) old (in_symbol number (Some name) layers symbols (items ++ item ∷ []))
    (in_symbol number (Some name) layers symbols ((items ++ item ∷ []) ++ map (Area (layer_place name layers)) areas)) first rest)

-- The lines of a part are read as its boxes, of a layer that has the part's name.
pub record ReadsPart (k : ℕ) (areas : List Rect) (number : ℕ) (layer : Option (List ℕ)) (layers : List (List ℕ)) (symbols : List CifSymbol)
    (items : List CifItem) : Type 0 where
  pub last : Option (List ℕ)
  pub new : List (List ℕ)
  pub place : ℕ
  pub kept : KeepsLayers layers new
  pub named : areas ≢ [] → slice_get new place ≡ Some (part_name k)
  pub reads : Reads (part_lines k areas) (in_symbol number layer layers symbols items)
      (in_symbol number last new symbols (items ++ map (Area place) areas))

-- so are those of each part whose number has three digits at most, where its boxes are near
pub part_read : (k : ℕ) (areas : List Rect) → k < 1000 → ((area : Rect) → In area areas → IsNearBox area) → (number : ℕ)
    (layer : Option (List ℕ)) (layers : List (List ℕ)) (symbols : List CifSymbol) (items : List CifItem)
    → ReadsPart k areas number layer layers symbols items
part_read k [] few near number layer layers symbols items = record {
  last = layer;
  new = layers;
  place = 0;
  kept = λ j name at. at;
  named = λ some. absurd (some refl);
  reads =
      let old = in_symbol number layer layers symbols items in
      subst (λ (all : List CifItem). Reads [] old (in_symbol number layer layers symbols all)) (sym (append-nil items)) (reads_none old);
}
part_read k (area ∷ areas) few near number layer layers symbols items =
    let name = part_name k in
    let new = with_layer name layers in
    let place = layer_place name layers in
    let old = in_symbol number layer layers symbols items in
    let item : CifItem = Area place area in
    let chosen = in_symbol number (Some name) layers symbols items in
    let one = in_symbol number (Some name) new symbols (items ++ item ∷ []) in
    let rest : Reads (map box_command areas) one (in_symbol number (Some name) new symbols ((items ++ item ∷ []) ++ map (Area place) areas)) =
    subst (λ (at : ℕ). Reads (map box_command areas) one (in_symbol number (Some name) new symbols ((items ++ item ∷ []) ++ map (Area at) areas)))
    (layer_place_kept name layers)
    (boxes_read areas (λ other among. near other (inr among)) number name new (layer_there name layers) symbols (items ++ item ∷ [])) in
    let last = in_symbol number (Some name) new symbols ((items ++ item ∷ []) ++ map (Area place) areas) in
    record {
      last = Some name;
      new = new;
      place = place;
      kept = layers_kept name layers;
      named = λ some. layer_named name layers;
      reads =
          subst (λ (all : List CifItem). Reads (part_lines k (area ∷ areas)) old (in_symbol number (Some name) new symbols all))
          (append_assoc items (item ∷ []) (map (Area place) areas))
          (reads_then (layer_command k ∷ []) (map box_command (area ∷ areas)) old chosen last (layer_read k number layer layers symbols items few)
          (reads_then (box_command area ∷ []) (map box_command areas) chosen one last
          (box_read_in area (near area (inl refl)) number name layers symbols items) rest));
    }
