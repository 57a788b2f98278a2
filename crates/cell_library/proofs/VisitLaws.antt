-- What a visit of one standing cell tells, from what it tells at the spots below.
use Rattle.cell_library.proofs.Common.{◌≡◌, ◌+◌, ◌*◌, ◌<◌, ℕ, suc, ℤ, pos, neg_ℤ, ◌+ℤ◌, ◌≤ℤ◌, ◌<ℤ◌, List, [], ◌∷◌, length, sym, ap, subst, ◌∙◌}
use Rattle.cell_library.proofs.Common.{arith, inl, inr, cases_lt, ints, clamps, Orient, R0, Square, Rect, Transform, common_rect, IsNear, Covers}
use Rattle.cell_library.proofs.Common.{IsProper, identity, image, inverted, covers_both, covers_is_proper, transform_of, image-forth, IsMaterial}
use Rattle.cell_library.proofs.Common.{Place, Paint, layout_of, space_past, Size, Depth, Elements, Hull, UseBody, SpansInRange, IsHullInRange}
use Rattle.cell_library.proofs.Common.{size_at, Tree, IsLawfulTree, cell_at, child_is_lower, cell_is, Standing, place_back, PartTile, Spot}
use Rattle.cell_library.proofs.Common.{elements_from, tree_to, LibraryParts, IsLawfulLibrary, seen, SpansFar, cells_at, standing_at, AreNumbered}
use Rattle.cell_library.proofs.Common.{AreSifted, AreSiftedBy, AreToldTo, CanBeVisited, HasRoomToMove, IsApart, spots_under, view_at, HullIsAt}
use Rattle.cell_library.proofs.Common.{placed_cells, placed_below, AddsTiles, AreOutside}
use Rattle.std.proofs.Common.{Some}
use Rattle.geo_core.specs.Images.{rect_image}
use Rattle.cell_tree.specs.Sizes.{size_of}
use Rattle.cell_library.proofs.HullsHoldMaterial.{hull_holds_material, state_uses}
use Rattle.cell_library.proofs.OwnTiles.{HullHoldsOwn}
use Rattle.cell_library.proofs.PlacedCells.{cells_counted, outside_hull}
use Rattle.cell_library.proofs.PlacedRects.{covers_back}
use Rattle.cell_library.proofs.SizeLaws.{tree_children}
use Rattle.cell_library.proofs.SpotLaws.{below_from, numbered_from, sifted_weaken, told_end}
use Rattle.cell_library.proofs.ToldTiles.{adds_none}

-- where the hull of a cell does not meet the area, nothing is told
pub visit_none : (library : LibraryParts) (levels step : ℕ) (spot : Spot) (area : Rect) (tiles : List PartTile) → IsLawfulLibrary library
    → ((hull : Rect) → HullIsAt library.tree.sizes spot.cell.0 hull → IsProper (common_rect (rect_image (inverted spot.to_top) area) hull) → ⊥)
    → AddsTiles (placed_cells step spot.part spot.to_top (tree_to (seen library) levels spot.cell.0)) spot.element area tiles tiles
visit_none library levels step spot area tiles lawful none =
    adds_none (placed_cells step spot.part spot.to_top (tree_to (seen library) levels spot.cell.0)) spot.element area tiles
    (outside_hull (seen library) library.tree.cells library.tree.sizes lawful.boxes lawful.tree.sizes.right levels spot.cell.0 step spot.part
    spot.to_top area
    (λ hull place is covers in_area.
    let square = (place_back spot.to_top place).square in
    none hull is (covers_is_proper (common_rect (rect_image (inverted spot.to_top) area) hull) square
    (covers_both (rect_image (inverted spot.to_top) area) hull square (covers_back spot.to_top area place in_area) covers))))

-- a cell without levels below it has its own tiles alone
pub visit_own : (library : LibraryParts) (levels step : ℕ) (spot : Spot) (area : Rect) (old new : List PartTile) → levels ≡ 0
    → AddsTiles (standing_at (seen library) spot ∷ []) spot.element area old new
    → AddsTiles (placed_cells step spot.part spot.to_top (tree_to (seen library) levels spot.cell.0)) spot.element area old new
visit_own library levels step spot area old new none adds =
    subst (λ (n : ℕ). AddsTiles (placed_cells step spot.part spot.to_top (tree_to (seen library) n spot.cell.0)) spot.element area old new)
    (sym none) adds

-- what stands at the spots that were dropped has nothing in the area
pub visit_sifted : (library : LibraryParts) (levels step : ℕ) (spot : Spot) (area back : Rect) (kept : List Spot) → IsLawfulLibrary library
    → back ≡ rect_image (inverted spot.to_top) area
    → AreSiftedBy (IsApart library.tree.sizes spot.to_top back) (spots_under library.tree step spot) kept
    → AreSifted (tree_to (seen library) levels) area (spots_under library.tree step spot) kept
visit_sifted library levels step spot area back kept lawful is sifted =
    sifted_weaken (IsApart library.tree.sizes spot.to_top back)
    (λ other. AreOutside area (placed_cells 0 other.part other.to_top (tree_to (seen library) levels other.cell.0)))
    (spots_under library.tree step spot) kept
    (λ other stands apart.
    outside_hull (seen library) library.tree.cells library.tree.sizes lawful.boxes lawful.tree.sizes.right levels other.cell.0 0 other.part
    other.to_top area
    (λ hull place there covers in_area.
    let square = image (inverted spot.to_top) place.square in
    apart hull there square
    (subst (λ (s : Square). Covers hull (image (inverted other.to_top) s)) (sym (image-forth spot.to_top place.square)) covers)
    (subst (λ (b : Rect). Covers b square) (sym is) (covers_back spot.to_top area place in_area))))
    sifted

-- the spots below are numbered from the next number on
pub visit_numbered : (library : LibraryParts) (levels step : ℕ) (spot : Spot) → IsLawfulLibrary library
    → CanBeVisited library.tree (suc levels) step spot
    → AreNumbered (tree_to (seen library) levels) (suc spot.element) (spots_under library.tree step spot)
visit_numbered library levels step spot lawful can =
    let tree = library.tree in
    let uses = (cell_at tree.cells spot.cell.0).uses in
    let here = cell_is tree.cells spot.cell.0 can.cell in
    let depths : (size_at tree.sizes spot.cell.0).depth ≡ (size_of (size_at tree.sizes) (cell_at tree.cells spot.cell.0)).depth =
    ap (λ (s : Size). s.depth) (lawful.tree.sizes.right spot.cell.0 (cell_at tree.cells spot.cell.0) here) in
    let deep = can.deep in
    subst (λ (n : ℕ). AreNumbered (tree_to (seen library) levels) n (spots_under tree step spot)) (let e : spot.element + 1 ≡ suc spot.element =
    omega arith in e)
    (numbered_from (tree_to (seen library) levels) step (size_at tree.sizes) spot.to_top uses (spot.part + step) (spot.element + 1) (λ k entry is.
    let child = (lawful.tree.cells.uses spot.cell.0 (cell_at tree.cells spot.cell.0) here k entry is).1 in
    let falls = child_is_lower (size_at tree.sizes) (cell_at tree.cells spot.cell.0) k entry is in
    cells_counted (seen library) tree.cells tree.sizes lawful.boxes lawful.tree.sizes.right
    (tree_children tree lawful.tree) levels entry.1.child.0 child
    (omega (arith, falls, depths, deep))))

-- All that stands at and below the cell was told, once all spots below were.
pub visit_all : (library : LibraryParts) (levels below step : ℕ) (spot : Spot) (area : Rect) (kept : List Spot) (i : ℕ) (old now : List PartTile)
    → IsLawfulLibrary library
    → spot.cell.0 < length library.tree.cells → levels ≡ suc below → i ≡ length kept
    → AreToldTo (tree_to (seen library) below) area (standing_at (seen library) spot) spot.element (spots_under library.tree step spot) kept i old now
    → AddsTiles (placed_cells step spot.part spot.to_top (tree_to (seen library) levels spot.cell.0)) spot.element area old now
visit_all library levels below step spot area kept i old now lawful there deep end told =
    let view = seen library in
    let tree = library.tree in
    let own = standing_at view spot in
    let all = spots_under tree step spot in
    let trees = tree_to view below in
    let uses : (cell_at tree.cells spot.cell.0).uses ≡ (view_at view spot.cell.0).uses =
    state_uses view.cells tree.cells spot.cell.0 lawful.boxes there in
    let cells : cells_at trees all ≡ placed_below step (spot.part + step) spot.to_top (elements_from trees (view_at view spot.cell.0).uses) =
    sym (below_from trees step (size_at tree.sizes) spot.to_top (cell_at tree.cells spot.cell.0).uses (spot.part + step) (spot.element + 1))
    ∙ ap (λ (u : List (List ℕ × UseBody)). placed_below step (spot.part + step) spot.to_top (elements_from trees u)) uses in
    let whole : AddsTiles (own ∷ cells_at trees all) spot.element area old now = told_end trees area own spot.element all kept i old now told end in
    subst (λ (n : ℕ). AddsTiles (placed_cells step spot.part spot.to_top (tree_to view n spot.cell.0)) spot.element area old now) (sym deep)
    (subst (λ (c : List Standing). AddsTiles (own ∷ c) spot.element area old now) cells whole)

-- ---- how far areas go

-- what a hull and an area have in common is near
pub near_hull : (back hull : Rect) → SpansInRange hull → IsProper (common_rect back hull) → IsNear (common_rect back hull)
near_hull back hull spans proper =
    let a0 : neg_ℤ (pos 67108858) ≤ℤ hull.xlo = spans.xlo.low in
    let a1 : hull.xhi ≤ℤ pos 67108858 = spans.xhi.high in
    let b0 : neg_ℤ (pos 67108858) ≤ℤ hull.ylo = spans.ylo.low in
    let b1 : hull.yhi ≤ℤ pos 67108858 = spans.yhi.high in
    let wide : (common_rect back hull).xlo <ℤ (common_rect back hull).xhi = proper.wide in
    let high : (common_rect back hull).ylo <ℤ (common_rect back hull).yhi = proper.high in
    record {
      xlo = (omega (arith, ints, clamps), omega (arith, ints, clamps));
      ylo = (omega (arith, ints, clamps), omega (arith, ints, clamps));
      xhi = (omega (arith, ints, clamps), omega (arith, ints, clamps));
      yhi = (omega (arith, ints, clamps), omega (arith, ints, clamps));
    }

-- the hull of a cell of a lawful tree is in range
pub hull_spans : (tree : Tree) (cell : ℕ) (hull : Rect) → IsLawfulTree tree → HullIsAt tree.sizes cell hull → SpansInRange hull
hull_spans tree cell hull lawful is = subst IsHullInRange is (lawful.sizes.within Hull cell)

-- a rectangle each of whose sides lies between the bounds
spans_far : (area : Rect) → neg_ℤ (pos 288230376151711744) ≤ℤ area.xlo → area.xlo ≤ℤ pos 288230376151711744
    → neg_ℤ (pos 288230376151711744) ≤ℤ area.ylo → area.ylo ≤ℤ pos 288230376151711744
    → neg_ℤ (pos 288230376151711744) ≤ℤ area.xhi → area.xhi ≤ℤ pos 288230376151711744
    → neg_ℤ (pos 288230376151711744) ≤ℤ area.yhi → area.yhi ≤ℤ pos 288230376151711744 → SpansFar area
spans_far area a0 a1 b0 b1 c0 c1 d0 d1 = record {
  xlo = record { low = a0; high = a1 };
  ylo = record { low = b0; high = b1 };
  xhi = record { low = c0; high = c1 };
  yhi = record { low = d0; high = d1 };
}

back_far-by_orient : (levels : ℕ) (o : Orient) (dx dy : ℤ) (area : Rect) → (dx +ℤ pos (levels * 281474976710656)) ≤ℤ pos 18014398509481984
    → pos (levels * 281474976710656) ≤ℤ (dx +ℤ pos 18014398509481984) → (dy +ℤ pos (levels * 281474976710656)) ≤ℤ pos 18014398509481984
    → pos (levels * 281474976710656) ≤ℤ (dy +ℤ pos 18014398509481984) → neg_ℤ (pos 268435456) <ℤ area.xlo → area.xlo <ℤ pos 268435456
    → neg_ℤ (pos 268435456) <ℤ area.ylo → area.ylo <ℤ pos 268435456 → neg_ℤ (pos 268435456) <ℤ area.xhi → area.xhi <ℤ pos 268435456
    → neg_ℤ (pos 268435456) <ℤ area.yhi → area.yhi <ℤ pos 268435456 → SpansFar (rect_image (inverted (transform_of o dx dy)) area)
unfolding rect_image
back_far-by_orient levels R0 dx dy area r0 r1 r2 r3 x0 x1 y0 y1 z0 z1 w0 w1 =
    spans_far _ (omega (arith, ints)) (omega (arith, ints)) (omega (arith, ints)) (omega (arith, ints)) (omega (arith, ints)) (omega (arith, ints))
    (omega (arith, ints)) (omega (arith, ints))
back_far-by_orient levels _ dx dy area r0 r1 r2 r3 x0 x1 y0 y1 z0 z1 w0 w1 =
    spans_far _ (omega (arith, ints)) (omega (arith, ints)) (omega (arith, ints)) (omega (arith, ints)) (omega (arith, ints)) (omega (arith, ints))
    (omega (arith, ints)) (omega (arith, ints))

-- an area that is near comes back to a spot not too far
pub back_far : (levels : ℕ) (placed : Transform) (area : Rect) → HasRoomToMove levels placed → IsNear area
    → SpansFar (rect_image (inverted placed) area)
back_far levels placed area room near =
    back_far-by_orient levels placed.orient placed.dx placed.dy area room.right room.left room.up room.down near.xlo.0 near.xlo.1 near.ylo.0 near.ylo.1
    near.xhi.0 near.xhi.1 near.yhi.0 near.yhi.1

-- the cell that is looked at can be visited
pub top_can_be_visited : (tree : Tree) (cell : ℕ) → IsLawfulTree tree → cell < length tree.cells
    → CanBeVisited tree 64 1 (record { cell = record { 0 = cell }; to_top = identity; part = 0; element = 0 })
top_can_be_visited tree cell lawful there =
    let depth = lawful.sizes.within Depth cell in
    let elements = lawful.sizes.within Elements cell in
    record {
      cell = there;
      few = omega arith;
      deep = omega (arith, depth);
      moves = record { right = omega (arith, ints); left = omega (arith, ints); up = omega (arith, ints); down = omega (arith, ints) };
      elements = omega (arith, elements);
      parts = omega (arith, elements);
    }

-- ---- own material

-- the hull of a cell holds its own material
pub hull_holds_own : (library : LibraryParts) (cell : ℕ) (hull : Rect) → IsLawfulLibrary library → HullIsAt library.tree.sizes cell hull
    → HullHoldsOwn (view_at (seen library) cell).own hull
hull_holds_own library cell hull lawful is place material =
    let found = hull_holds_material (seen library) library.tree.cells library.tree.sizes lawful.boxes lawful.tree.sizes.right 0 cell place
    (inl material) in
    let same : Some found.0 ≡ Some hull = sym found.1 ∙ is in
    let one : found.0 ≡ hull = cc in
    subst (λ (h : Rect). Covers h place.square) one found.2

-- where paint shows something, there is a plane
pub plane_below : (paint : Paint) (place : Place) → IsMaterial (layout_of paint) place → place.plane < length paint.planes
plane_below paint place material = elim (cases_lt place.plane (length paint.planes)) [
  | inl below ↦ below
  | inr past ↦ absurd (material (space_past paint.planes place.plane place.square past))
]
