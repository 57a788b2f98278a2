-- The lower left square of a tile: it lies in the tile, in reach, and the standing cell has the tile's type there.
use Rattle.tile_members.proofs.Common.{◌≡◌, ◌<◌, ℕ, length, refl, sym, ap, subst, ◌∙◌, arith, slice_get, In, In-slice_get, Rect, Square, Transform}
use Rattle.tile_members.proofs.Common.{corner_of, Covers, identity, LiesInReach, MovesInReach, IsMaterial, Place, Standing, place_back, standings}
use Rattle.tile_members.proofs.Common.{MOST_DEPTH, PartTile, LibraryParts, IsLawfulLibrary, seen, view_at, identity_back, corner_place, IsPartTile}
use Rattle.std.proofs.Common.{pos, neg_ℤ, ◌≤ℤ◌}
use Rattle.std.specs.Prelude.{Some}
use Rattle.std.proofs.lemmas.Int.{ints}
use Rattle.geo_core.proofs.CoveringLaws.{corner_covered}
use Rattle.layout_model.specs.Layouts.{Layout}
use Rattle.element_paths.specs.CellTree.Hulls.{SpansInRange}
use Rattle.element_paths.specs.CellLibrary.LayoutTrees.{tree_at, tree_to}
use Rattle.element_paths.specs.CellLibrary.steps.VisitedTiles.{HasThere, IsCutOf, placed_cells}
use Rattle.element_paths.proofs.CellLibrary.HullsHoldMaterial.{hull_holds_material}
use Rattle.element_paths.proofs.CellLibrary.PlacedCells.{placed_has, standings_placed}
use Rattle.element_paths.proofs.CellLibrary.ToldTiles.{cut_type}
use Rattle.element_paths.proofs.CellLibrary.VisitLaws.{hull_spans}
use Rattle.tile_members.specs.TileLaws.{LiesInPartTile}
use Rattle.tile_members.specs.steps.OpenedCells.{HasOwnCorner}
use Rattle.tile_members.proofs.StandingCells.{standing_cells}

-- What a tile of a part of a cell of a library has at its lower left square.
pub record HasCorner (library : LibraryParts) (cell : ℕ) (tile : PartTile) : Type 0 where
  pub standing : Standing
  pub stands : slice_get (standings (tree_at (seen library) cell)) tile.element ≡ Some standing
  pub part : tile.part ≡ standing.part
  pub of : standing.own.cell ≡ tile.of.0
  pub placed : standing.placed ≡ tile.to_cell
  pub inside : LiesInPartTile tile (corner_place tile)
  pub own : HasOwnCorner library tile

-- what a rectangle within the range of paint covers is in reach
range_in_reach : (hull : Rect) (square : Square) → SpansInRange hull → Covers hull square → LiesInReach square
range_in_reach hull square spans covers =
    let a0 : neg_ℤ (pos 67108858) ≤ℤ hull.xlo = spans.xlo.low in
    let a1 : hull.xhi ≤ℤ pos 67108858 = spans.xhi.high in
    let b0 : neg_ℤ (pos 67108858) ≤ℤ hull.ylo = spans.ylo.low in
    let b1 : hull.yhi ≤ℤ pos 67108858 = spans.yhi.high in
    let c0 = covers.right_of_xlo in
    let c1 = covers.left_of_xhi in
    let d0 = covers.above_ylo in
    let d1 = covers.below_yhi in
    record { x = (omega (arith, ints), omega (arith, ints)); y = (omega (arith, ints), omega (arith, ints)) }

-- where something stands at or below a cell of a lawful library is in reach
material_in_reach : (library : LibraryParts) → IsLawfulLibrary library → (cell element : ℕ) (standing : Standing) (place : Place)
    → slice_get (standings (tree_at (seen library) cell)) element ≡ Some standing → HasThere standing place → LiesInReach place.square
unfolding tree_at
material_in_reach library lawful cell element standing place is has =
    let tree = tree_to (seen library) MOST_DEPTH cell in
    let among : In standing (placed_cells 1 0 identity tree) =
    subst (In standing) (standings_placed tree) (In-slice_get (standings tree) element standing is) in
    let found = hull_holds_material (seen library) library.tree.cells library.tree.sizes lawful.boxes lawful.tree.sizes.right MOST_DEPTH cell
    (place_back identity place) (placed_has 1 0 identity tree standing place among has) in
    range_in_reach found.0 place.square (hull_spans library.tree cell found.0 lawful.tree found.1)
    (subst (λ (p : Place). Covers found.0 p.square) (identity_back place) found.2)

-- the corner of a tile of a part of a cell of a lawful library
pub tile_corner : (library : LibraryParts) → IsLawfulLibrary library → (cell : ℕ) → cell < length library.contents → (tile : PartTile)
    → IsPartTile (tree_at (seen library) cell) tile → HasCorner library cell tile
tile_corner library lawful cell below tile (area, is) =
    let standing = is.standing in
    let own = standing_cells library lawful cell tile.element standing below is.there in
    let corner = corner_of tile.area in
    let covered = corner_covered tile.area is.meets in
    let cut : IsCutOf standing area tile = record {
      part = is.part;
      of = is.of;
      to_cell = is.to_cell;
      strip = is.strip;
      is_strip = is.is_strip;
      material = is.material;
      cut = is.cut;
      meets = is.meets;
    } in
    let kind : standing.own.layout (place_back standing.placed (corner_place tile)) ≡ tile.kind.0 = cut_type standing area tile corner cut covered in
    let has : HasThere standing (corner_place tile) = λ none. is.material (sym kind ∙ none) in
    let layout : standing.own.layout ≡ (view_at (seen library) standing.own.cell).own = ap (λ o. o.layout) own.own in
    let seen_there : IsMaterial (view_at (seen library) standing.own.cell).own (place_back standing.placed (corner_place tile)) =
    subst (λ (l : Layout). IsMaterial l (place_back standing.placed (corner_place tile))) layout has in
    let of_is : standing.own.cell ≡ tile.of.0 = sym is.of in
    let placed_is : standing.placed ≡ tile.to_cell = sym is.to_cell in
    record {
      standing = standing;
      stands = is.there;
      part = is.part;
      of = of_is;
      placed = placed_is;
      inside = record { plane = refl; covers = covered };
      own = record {
        there = subst (λ (n : ℕ). n < length library.contents) of_is own.there;
        moves = subst MovesInReach placed_is own.moves;
        reach = material_in_reach library lawful cell tile.element standing (corner_place tile) is.there has;
        material = subst (λ (t : Transform). IsMaterial (view_at (seen library) tile.of.0).own (place_back t (corner_place tile))) placed_is
            (subst (λ (n : ℕ). IsMaterial (view_at (seen library) n).own (place_back standing.placed (corner_place tile))) of_is seen_there);
      };
    }
