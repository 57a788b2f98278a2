-- The strips of layer after layer, and what they are strips of.
use Rattle.cif_expansion.proofs.Common.{◌≡◌, ℕ, ◌+◌, ◌<◌, ◌≤◌, List, [], ◌∷◌, ◌++◌, Some, inl, inr, length, map, take, get_or, sym, ◌∙◌, ap, subst}
use Rattle.cif_expansion.proofs.Common.{arith, slice_get, slice_set, take_all, take_more, Rect, CifParts, size_of, list_at}
use Rattle.std.proofs.lemmas.List.{get_or_default, get_or-set_other, length-map, length-set, length-take-le, map_push}
use Rattle.finite_sets.proofs.Places.{slice_get-push_cases}
use Rattle.geo_core.specs.declared.squares.Square.{Square}
use Rattle.geo_core.specs.Strips.{IsInUnion, IsStrips}
use Rattle.geo_core.proofs.StripSets.{strips_same}
use Rattle.cif_model.specs.Meanings.{IsMeant}
use Rattle.cif_expansion.specs.declared.expansion.LayerStrips.{LayerStrips}
use Rattle.cif_expansion.specs.Expansions.{AreBoxesOf, IsExpanded}
use Rattle.cif_expansion.specs.Limits.{IsWithinLimits}

-- the name of a layer
abbrev pub name_of : LayerStrips → List ℕ
name_of layer = layer.name

-- The layers before a place are made of the boxes, and from the place on those are still there.
pub record AreMadeUpTo (names : List (List ℕ)) (boxes now : List (List Rect)) (place : ℕ) (layers : List LayerStrips) : Type 0 where
  pub so_many : length now ≡ length names
  pub rest : (later : ℕ) → place ≤ later → list_at now later ≡ list_at boxes later
  pub names_are : map name_of layers ≡ take place names
  pub strips_are : (made : ℕ) (layer : LayerStrips) → slice_get layers made ≡ Some layer → IsStrips (IsInUnion (list_at boxes made)) layer.strips

-- one more
pub made_more : (names : List (List ℕ)) (boxes now : List (List Rect)) (place : ℕ) (layers layers' : List LayerStrips) (name : List ℕ)
    (own left taken : List Rect)
    (layer : LayerStrips) → place < length names → name ≡ get_or names place name → own ≡ get_or now place own → taken ≡ own → layer.name ≡ name
    → IsStrips (IsInUnion taken) layer.strips → layers' ≡ layers ++ layer ∷ [] → AreMadeUpTo names boxes now place layers
    → AreMadeUpTo names boxes (slice_set now place left) (place + 1) layers'
made_more names boxes now place layers layers' name own left taken layer below is_name is_own same named strips pushed made =
    let within : place < length now = omega (arith, below, made.so_many) in
    let here : list_at boxes place ≡ taken =
    sym (same ∙ is_own ∙ get_or_default now place own [] within ∙ made.rest place (omega arith)) in
    let long : length layers ≡ place =
    sym (length-map layers name_of) ∙ ap length made.names_are ∙ length-take-le place names (omega arith) in
    let all : AreMadeUpTo names boxes (slice_set now place left) (place + 1) (layers ++ layer ∷ []) = record {
      so_many = length-set now place left ∙ made.so_many;
      rest = λ later less. get_or-set_other now place later left [] (λ is. absurd (omega (arith, is, less))) ∙ made.rest later (omega arith);
      names_are = map_push name_of layers layer ∙ ap (λ (some : List (List ℕ)). some ++ layer.name ∷ []) made.names_are
          ∙ ap (λ (one : List ℕ). take place names ++ one ∷ []) (named ∙ is_name) ∙ sym (take_more names place name below);
      strips_are = λ other one is. elim (slice_get-push_cases layers layer one other is) [
        | inl before ↦ made.strips_are other one before
        | inr last ↦ subst (λ (some : LayerStrips). IsStrips (IsInUnion (list_at boxes other)) some.strips) last.1
            (subst (λ k. IsStrips (IsInUnion (list_at boxes k)) layer.strips) (sym (last.0 ∙ long))
            (subst (λ (rects : List Rect). IsStrips (IsInUnion rects) layer.strips) (sym here) strips))
      ];
    } in
    subst (AreMadeUpTo names boxes (slice_set now place left) (place + 1)) (sym pushed) all

-- all
pub made_all : (names : List (List ℕ)) (boxes now : List (List Rect)) (place : ℕ) (layers : List LayerStrips) → length names ≤ place
    → AreMadeUpTo names boxes now place layers → map name_of layers ≡ names
made_all names boxes now place layers past made = made.names_are ∙ take_all place names past

-- the union of a layer's boxes is what the text means
union_means : (cif : CifParts) (boxes : List (List Rect)) (layer : ℕ) (square : Square) → AreBoxesOf cif boxes → IsInUnion (list_at boxes layer) square
    → IsMeant cif layer square
union_means cif boxes layer square are (box, (there, covers)) = let stands = are.only layer box there in (stands.0, (box, (stands.1, covers)))

means_union : (cif : CifParts) (boxes : List (List Rect)) (layer : ℕ) (square : Square) → AreBoxesOf cif boxes → IsMeant cif layer square
    → IsInUnion (list_at boxes layer) square
means_union cif boxes layer square are (calls, (box, (stands, covers))) = (box, (are.every layer box (calls, stands), covers))

-- so the strips are those of the text
pub expanded : (cif : CifParts) (boxes : List (List Rect)) (names : List (List ℕ)) (layers : List LayerStrips) → IsWithinLimits (size_of cif)
    → AreBoxesOf cif boxes
    → names ≡ cif.layers → map name_of layers ≡ names
    → ((place : ℕ) (layer : LayerStrips) → slice_get layers place ≡ Some layer → IsStrips (IsInUnion (list_at boxes place)) layer.strips)
    → IsExpanded cif layers
expanded cif boxes names layers within are all named strips = record {
  within = within;
  in_range = are.in_range;
  names = named ∙ all;
  strips = λ place layer is. strips_same (IsInUnion (list_at boxes place)) (IsMeant cif place) (λ square. union_means cif boxes place square are)
      (λ square. means_union cif boxes place square are) layer.strips (strips place layer is);
}
