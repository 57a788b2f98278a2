-- The own types at places are those of the cells as they stand, in order.
use Rattle.tree_circuits.proofs.Common.{◌≡◌, ℕ, List, [], ◌∷◌, ◌++◌, map, refl, sym, ◌∙◌, ap, map-append, map-map, Square, Transform, composed}
use Rattle.tree_circuits.proofs.Common.{identity, image, Place, own_types, place_back, NamedTree, NamedElements, NamedStanding, layouts_of}
use Rattle.tree_circuits.proofs.Common.{named_above, named_standings, named_standings_below, named_tree, no_more, element_then}
use Rattle.geo_core.specs.Images.{inverted}
use Rattle.geo_core.proofs.ImageLaws.{image-back, image-composed, image-forth}
use Rattle.tree_names.proofs.ElementTree.Transforms.{image-identity}
use Rattle.tree_names.specs.HierarchyModel.Laws.{own_pairs, own_pairs_below}
use Rattle.tree_names.proofs.HierarchyModel.RoleLaws.{own_pairs_first}
use Rattle.tree_names.specs.TreeRecords.NamedTrees.{layouts_below}

-- the place on the plane of another with this square
abbrev pub with_square : Place → Square → Place
with_square place square = record { plane = place.plane; square = square }

-- the identity brings places back to where they are
pub back_identity : (place : Place) → place_back identity place ≡ place
back_identity place =
    ap (with_square place) (ap (image (inverted identity)) (sym (image-identity place.square)) ∙ image-back identity place.square)

-- what follows another transform is undone first
pub back_composed : (inner outer : Transform) (place : Place)
    → place_back (composed inner outer) place ≡ place_back inner (place_back outer place)
back_composed inner outer place =
    let whole = composed inner outer in
    let square = place.square in
    let within = image (inverted inner) (image (inverted outer) square) in
    let goes : image whole within ≡ square =
    image-composed inner outer within ∙ ap (image outer) (image-forth inner (image (inverted outer) square)) ∙ image-forth outer square in
    ap (with_square place) (ap (image (inverted whole)) (sym goes) ∙ image-back whole within)

-- the own type of a cell as it stands, at a place of the cell above
abbrev pub type_at : Place → NamedStanding → ℕ
type_at place standing = standing.own.layout (place_back standing.placed place)

-- its own types at two places
abbrev pub types_at : Place → Place → NamedStanding → ℕ × ℕ
types_at place beside standing = (type_at place standing, type_at beside standing)

-- what a cell has at a place brought back, it has there as it stands above
type_above : (id : List ℕ) (placed : Transform) (place : Place) (standing : NamedStanding)
    → type_at place (named_above id placed standing) ≡ type_at (place_back placed place) standing
type_above id placed place standing = ap standing.own.layout (back_composed standing.placed placed place)

types_above : (id : List ℕ) (placed : Transform) (place beside : Place) (standings : List NamedStanding)
    → map (types_at place beside) (map (named_above id placed) standings)
    ≡ map (types_at (place_back placed place) (place_back placed beside)) standings
types_above id placed place beside [] = refl
types_above id placed place beside (standing ∷ standings) =
    let here = type_above id placed place standing in
    let there = type_above id placed beside standing in
    let rest = types_above id placed place beside standings in
    (λ i. (here i, there i) ∷ rest i)

mutual
  -- the own types at two places are those of the cells as they stand
  pub pairs_of_standings : (tree : NamedTree) (place beside : Place)
      → own_pairs (layouts_of tree) place beside ≡ map (types_at place beside) (named_standings tree)
  pairs_of_standings (named_tree own elements) place beside =
      let here : own.layout place ≡ own.layout (place_back identity place) = sym (ap own.layout (back_identity place)) in
      let there : own.layout beside ≡ own.layout (place_back identity beside) = sym (ap own.layout (back_identity beside)) in
      let rest = pairs_below elements place beside in
      (λ i. (here i, there i) ∷ rest i)

  pairs_below : (elements : NamedElements) (place beside : Place)
      → own_pairs_below (layouts_below elements) place beside ≡ map (types_at place beside) (named_standings_below elements)
  pairs_below no_more place beside = refl
  pairs_below (element_then id placed tree rest) place beside =
      let first = own_pairs (layouts_of tree) (place_back placed place) (place_back placed beside) in
      ap (λ (pairs : List (ℕ × ℕ)). pairs ++ own_pairs_below (layouts_below rest) place beside)
      (pairs_of_standings tree (place_back placed place) (place_back placed beside)
      ∙ sym (types_above id placed place beside (named_standings tree)))
      ∙ ap (λ (pairs : List (ℕ × ℕ)). map (types_at place beside) (map (named_above id placed) (named_standings tree)) ++ pairs)
      (pairs_below rest place beside)
      ∙ sym (map-append (types_at place beside) (map (named_above id placed) (named_standings tree)) (named_standings_below rest))

-- and the own types at one place
pub types_of_standings : (tree : NamedTree) (place : Place) → own_types (layouts_of tree) place ≡ map (type_at place) (named_standings tree)
types_of_standings tree place =
    sym (own_pairs_first (layouts_of tree) place place)
    ∙ ap (map (λ (pair : ℕ × ℕ). pair.0)) (pairs_of_standings tree place place)
    ∙ map-map (λ (pair : ℕ × ℕ). pair.0) (types_at place place) (named_standings tree)
