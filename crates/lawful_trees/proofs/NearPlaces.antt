-- The material of a cell of a library lies within the range of paint, on the planes of its technology.
use Rattle.lawful_trees.proofs.Common.{◌≡◌, ◌<◌, ℕ, inl, inr, subst, arith, ints, Covers, RawTech, IsWellFormed, IsMaterial, Place, CellTree}
use Rattle.lawful_trees.proofs.Common.{place_back, IsTyped, AreTyped, MOST_DEPTH, LibraryParts, IsLawfulLibrary, seen, NamedTree, layouts_of}
use Rattle.lawful_trees.proofs.Common.{own_body, named_tree, flat_layout}
use Rattle.geo_core.specs.declared.squares.Rect.{Rect}
use Rattle.geo_core.specs.declared.squares.Square.{Square}
use Rattle.tech_model.specs.declared.limits.TheConstants.{MOST_PLANES}
use Rattle.group_meetings.specs.LayoutModel.CellTrees.{Elements}
use Rattle.group_meetings.specs.LayoutModel.CellTrees.CellTree.{cell_tree}
use Rattle.group_meetings.specs.LayoutModel.CellTrees.Elements.{no_elements, element_and}
use Rattle.group_meetings.specs.LayoutModel.FlatSets.{flat_sets}
use Rattle.group_meetings.specs.CellPaint.Painting.{paint_range}
use Rattle.library_trees.specs.CellTree.declared.sizes.Dimension.TheVariants.{Hull}
use Rattle.library_trees.specs.CellTree.Hulls.{SpansInRange}
use Rattle.library_trees.specs.CellTree.Sizes.{IsHullInRange}
use Rattle.library_trees.specs.CellLibrary.LayoutTrees.{tree_at}
use Rattle.library_trees.specs.CellLibrary.steps.MaterialBelow.{HasMaterial, HasMaterialBelow}
use Rattle.library_trees.proofs.CellLibrary.HullsHoldMaterial.{hull_holds_material, material_of_sets}
use Rattle.group_meetings.proofs.MeetingLaws.LinkLaws.{part_of_empty}

-- A place where there may be paint.
pub record IsPaintPlace (place : Place) : Type 0 where
  pub plane : place.plane < MOST_PLANES
  pub covers : Covers paint_range place.square

-- a square of a hull that lies within the range is in it
in_range : (hull : Rect) (square : Square) → SpansInRange hull → Covers hull square → Covers paint_range square
in_range hull square spans covers = record {
  right_of_xlo = omega (arith, ints, spans.xlo.low, covers.right_of_xlo);
  left_of_xhi = omega (arith, ints, spans.xhi.high, covers.left_of_xhi);
  above_ylo = omega (arith, ints, spans.ylo.low, covers.above_ylo);
  below_yhi = omega (arith, ints, spans.yhi.high, covers.below_yhi);
}

module _ (raw : RawTech) (formed : IsWellFormed raw) where
  -- material of typed layouts stands on the technology's planes
  mutual
    plane_of_material : (tree : CellTree) → IsTyped raw tree → (place : Place) → HasMaterial tree place → place.plane < MOST_PLANES
    plane_of_material (cell_tree own below) typed place (inl here) =
        let type = typed.0 place here in
        omega (arith, formed.type_planes (own.layout place) type.0, type.1, formed.planes_limit)
    plane_of_material (cell_tree own below) typed place (inr there) = plane_below below typed.1 place there

    plane_below : (elements : Elements) → AreTyped raw elements → (place : Place) → HasMaterialBelow elements place → place.plane < MOST_PLANES
    plane_below no_elements typed place none = absurd none
    plane_below (element_and placed tree rest) typed place (inl here) = plane_of_material tree typed.0 (place_back placed place) here
    plane_below (element_and placed tree rest) typed place (inr later) = plane_below rest typed.1 place later

module _ (library : LibraryParts) (lawful : IsLawfulLibrary library) (cell : ℕ) where
  -- material of a cell lies within the range
  covered : (place : Place) → HasMaterial (tree_at (seen library) cell) place → Covers paint_range place.square
  unfolding tree_at
  covered place material =
      let found =
      hull_holds_material (seen library) library.tree.cells library.tree.sizes lawful.boxes lawful.tree.sizes.right MOST_DEPTH cell place material in
      let within = lawful.tree.sizes.within Hull cell in
      in_range found.0 place.square (subst IsHullInRange found.1 within) found.2

  module _ (tree : NamedTree) (is : layouts_of tree ≡ tree_at (seen library) cell) where
    -- and so does that of the tree with its layouts
    covered_in : (place : Place) → HasMaterial (layouts_of tree) place → Covers paint_range place.square
    covered_in place material = covered place (subst (λ (t : CellTree). HasMaterial t place) is material)

    -- the cell's own material does
    pub own_in_range : (place : Place) → IsMaterial (own_body tree).layout place → Covers paint_range place.square
    own_in_range place material = covered_in place (own_material tree place material)
      where
        own_material : (t : NamedTree) (p : Place) → IsMaterial (own_body t).layout p → HasMaterial (layouts_of t) p
        own_material (named_tree own below) p here = inl here

    -- and so does that of its flat layout
    pub flat_is_near : IsTyped library.tech (layouts_of tree) → (place : Place) → IsMaterial (flat_layout library.tech tree) place → IsPaintPlace place
    flat_is_near typed place material =
        let sets = flat_sets library.tech (layouts_of tree) in
        let there = material_of_sets library.tech (layouts_of tree) place (λ none. material (part_of_empty library.tech sets place none)) in
        record {
          plane = plane_of_material library.tech lawful.well_formed (layouts_of tree) typed place there;
          covers = covered_in place there;
        }
