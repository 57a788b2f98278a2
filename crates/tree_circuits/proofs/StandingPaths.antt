-- The nodes of the cells as they stand have paths in the tree.
use Rattle.tree_circuits.proofs.Common.{◌≡◌, ℕ, List, map, inl, inr, refl, sym, ◌∙◌, ap, subst, In, In-append_cases, In-map_source, Square}
use Rattle.tree_circuits.proofs.Common.{Transform, composed, identity, RawTech, path_text, Place, place_back, HasNodePath, NamedTree, NamedElements}
use Rattle.tree_circuits.proofs.Common.{NamedStanding, named_above, named_standings, named_standings_below, place_forth, named_tree, no_more}
use Rattle.tree_circuits.proofs.Common.{element_then, back_from_above}
use Rattle.geo_core.proofs.ImageLaws.{image-composed}
use Rattle.tree_names.proofs.ElementTree.Transforms.{image-identity}
use Rattle.tree_names.specs.TreeRecords.FlatLayouts.{HasNodePathBelow, HasOwnName}
use Rattle.tree_circuits.proofs.StandingTypes.{with_square}

-- the identity leaves places where they are
forth_identity : (place : Place) → place_forth identity place ≡ place
forth_identity place = ap (with_square place) (image-identity place.square)

-- where two transforms take a place, the outer brings it back to where the inner takes it
back_from_composed : (inner outer : Transform) (place : Place)
    → place_back outer (place_forth (composed inner outer) place) ≡ place_forth inner place
back_from_composed inner outer place =
    ap (λ (square : Square). place_back outer (with_square place square)) (image-composed inner outer place.square)
    ∙ back_from_above outer (place_forth inner place)

module _ (raw : RawTech) where
  mutual
    -- a node of a cell as it stands has the path of its name behind those of the elements that lead to the cell
    pub standing_path : (tree : NamedTree) (standing : NamedStanding) → In standing (named_standings tree) → (place : Place) (name : List ℕ)
        → HasOwnName raw standing.own place name → HasNodePath raw tree (place_forth standing.placed place) (path_text standing.ids name)
    standing_path (named_tree own elements) standing (inl same) place name has =
        let P : NamedStanding → Type 0 = λ s. HasOwnName raw s.own place name
        → HasNodePath raw (named_tree own elements) (place_forth s.placed place) (path_text s.ids name) in
        subst P same (λ here. inl (subst (λ (p : Place). HasOwnName raw own p name) (sym (forth_identity place)) here)) has
    standing_path (named_tree own elements) standing (inr below) place name has = inr (path_below elements standing below place name has)

    path_below : (elements : NamedElements) (standing : NamedStanding) → In standing (named_standings_below elements)
        → (place : Place) (name : List ℕ)
        → HasOwnName raw standing.own place name
        → HasNodePathBelow raw elements (place_forth standing.placed place) (path_text standing.ids name)
    path_below no_more standing none place name has = absurd none
    path_below (element_then id placed tree rest) standing here place name has =
        elim (In-append_cases standing (map (named_above id placed) (named_standings tree)) (named_standings_below rest) here) [
          | inl first ↦
              let source = In-map_source (named_above id placed) standing (named_standings tree) first in
              let inner = source.0 in
              let P : NamedStanding → Type 0 = λ s. HasOwnName raw s.own place name
              → HasNodePathBelow raw (element_then id placed tree rest) (place_forth s.placed place) (path_text s.ids name) in
              subst P source.1.1
              (λ is. inl (
                path_text inner.ids name,
                subst (λ (p : Place). HasNodePath raw tree p (path_text inner.ids name))
                    (sym (back_from_composed inner.placed placed place))
                    (standing_path tree inner source.1.0 place name is),
                refl,
              )) has
          | inr later ↦ inr (path_below rest standing later place name has)
        ]
