use Rattle.cell_library.proofs.Common.{◌≡◌, ◌≢◌, ◌+◌, ◌-◌, ℕ, suc, List, sym, subst, ◌∙◌, ap, arith, slice_get-get_or, In-get_or, Rect, Transform}
use Rattle.cell_library.proofs.Common.{common_rect, IsProper, inverted, MovesInReach, Tree, Spot, tree_to, seen, SpansFar, standing_at, AreSiftedBy}
use Rattle.cell_library.proofs.Common.{CanBeVisited, HasRoomBelow, IsApart, spots_under, AreUseTrees, HullIsAt, IsNearSpot}
use Rattle.geo_core.specs.Images.{rect_image}
use Rattle.cell_library.specs.steps.Visits.{IsNearPart}
use Rattle.cell_library.proofs.GridSpots.{room_in_reach}
use Rattle.cell_library.proofs.RowSpots.{inverted_in_reach}
use Rattle.cell_library.proofs.SpotLaws.{sifted_in, told_next, told_start}
use Rattle.cell_library.proofs.UseSums.{below_can_be_visited, visited_has_room}
use Rattle.cell_library.proofs.VisitLaws.{back_far, visit_all, visit_none, visit_numbered, visit_own, visit_sifted}
use Rattle.cell_library.proofs.visiting.+visit_spot.Goals as goal

-- the area in the coordinates of the cell at the spot
back_is : (spot : Spot) (area back : Rect) (inverse : Transform) → inverse ≡ inverted spot.to_top → back ≡ rect_image inverse area
    → back ≡ rect_image (inverted spot.to_top) area
back_is spot area back inverse inverse_is is = is ∙ ap (λ (m : Transform). rect_image m area) inverse_is

-- a part that is near there is near the spot
near_is : (tree told : Tree) (spot : Spot) (area back near : Rect) → back ≡ rect_image (inverted spot.to_top) area → told ≡ tree
    → IsNearPart told.sizes spot.cell.0 back near → IsNearSpot tree.sizes spot area near
near_is tree told spot area back near back_is told_is is =
    subst (λ (b : Rect). IsNearPart tree.sizes spot.cell.0 b near) back_is
    (subst (λ (t : Tree). IsNearPart t.sizes spot.cell.0 back near) told_is is)

-- the spots below it that were found
kept_is : (tree told : Tree) (step : ℕ) (spot : Spot) (back : Rect) (kept found : List Spot) → told ≡ tree → kept ≡ found
    → AreSiftedBy (IsApart told.sizes spot.to_top back) (spots_under told step spot) found
    → AreSiftedBy (IsApart tree.sizes spot.to_top back) (spots_under tree step spot) kept
kept_is tree told step spot back kept found told_is same sifted =
    subst (λ (items : List Spot). AreSiftedBy (IsApart tree.sizes spot.to_top back) (spots_under tree step spot) items) (sym same)
    (subst (λ (t : Tree). AreSiftedBy (IsApart t.sizes spot.to_top back) (spots_under t step spot) found) told_is sifted)

-- where there are levels left, there is a last of them
can_be_visited : (tree : Tree) (levels step : ℕ) (spot : Spot) → levels ≢ 0 → CanBeVisited tree levels step spot
    → CanBeVisited tree (suc (levels - 1)) step spot
can_be_visited tree levels step spot some can =
    subst (λ (n : ℕ). CanBeVisited tree n step spot) (let e : levels ≡ suc (levels - 1) = omega (arith, some) in e) can

pub rect-back-requires-clause-moves : goal.rect-back-requires-clause-moves
rect-back-requires-clause-moves t c =
    subst MovesInReach (sym c.inverse.ensures.value)
    (inverted_in_reach c.args.spot.now.to_top (room_in_reach c.args.levels c.args.spot.now.to_top c.requires.spot.moves))

pub returns-in-None-clause-tiles : goal.returns-in-None-clause-tiles
returns-in-None-clause-tiles t c =
    let spot = c.args.spot.now in
    let back = back_is spot c.args.area c.rect-back.result c.inverse.result c.inverse.ensures.value c.rect-back.ensures.value in
    visit_none c.args.library.now c.args.levels c.args.part_step spot c.args.area c.args.tiles.now.items c.lawful.ensures (λ hull is proper.
    c.in-None.ensures.none hull (subst (λ (tree : Tree). HullIsAt tree.sizes spot.cell.0 hull) (sym c.tree.ensures) is)
    (subst (λ (b : Rect). IsProper (common_rect b hull)) (sym back) proper))

pub returns-then-levels-eq0-clause-tiles : goal.returns-then-levels-eq0-clause-tiles
returns-then-levels-eq0-clause-tiles t c =
    let library = c.args.library.now in
    let spot = c.args.spot.now in
    let back = back_is spot c.args.area c.rect-back.result c.inverse.result c.inverse.ensures.value c.rect-back.ensures.value in
    let near = near_is library.tree c.tree.result.now spot c.args.area c.rect-back.result c.in-Some.near back c.tree.ensures c.in-Some.ensures.some in
    visit_own library c.args.levels c.args.part_step spot c.args.area c.args.tiles.now.items c.add_own.new.tiles.items c.if-levels-eq0.true
    (c.in_ok-add_own.ensures c.args.area near)

pub spots_below-requires-clause-trees : goal.spots_below-requires-clause-trees
spots_below-requires-clause-trees t c = subst (λ (tree : Tree). AreUseTrees tree c.args.use_trees.now) (sym c.tree-2.ensures) c.requires.uses

pub returns-in_err-below-clause-uses : goal.returns-in_err-below-clause-uses
returns-in_err-below-clause-uses t c = subst (λ (tree : Tree). AreUseTrees tree c.spots_below.new.self) c.tree-2.ensures c.spots_below.ensures.trees

pub spots_below-requires-clause-room : goal.spots_below-requires-clause-room
spots_below-requires-clause-room t c =
    subst (λ (tree : Tree). HasRoomBelow tree c.args.part_step c.args.spot.now) (sym c.tree-2.ensures)
    (visited_has_room c.args.library.now.tree c.args.levels c.args.part_step c.args.spot.now (omega (arith, c.if-levels-eq0.false)) c.requires.spot)

pub spots_below-requires-clause-back : goal.spots_below-requires-clause-back
spots_below-requires-clause-back t c =
    let spot = c.args.spot.now in
    let back = back_is spot c.args.area c.rect-back.result c.inverse.result c.inverse.ensures.value c.rect-back.ensures.value in
    subst SpansFar (sym back) (back_far c.args.levels spot.to_top c.args.area c.requires.spot.moves c.requires.near)

pub loop-next-init : goal.loop-next-init
loop-next-init t c =
    let library = c.args.library.now in
    let spot = c.args.spot.now in
    let back = back_is spot c.args.area c.rect-back.result c.inverse.result c.inverse.ensures.value c.rect-back.ensures.value in
    let near = near_is library.tree c.tree.result.now spot c.args.area c.rect-back.result c.in-Some.near back c.tree.ensures c.in-Some.ensures.some in
    let kept = kept_is library.tree c.tree-2.result.now c.args.part_step spot c.rect-back.result c.deref-next-items.result.now c.in_ok-below.below.items
    c.tree-2.ensures c.deref-next-items.ensures.value c.in_ok-below.ensures.found in (
      subst (λ (tree : Tree). AreUseTrees tree c.spots_below.new.self) c.tree-2.ensures c.spots_below.ensures.trees,
      told_start (tree_to (seen library) (c.args.levels - 1)) c.args.area (standing_at (seen library) spot) spot.element
          (spots_under library.tree c.args.part_step spot)
          c.deref-next-items.result.now c.args.tiles.now.items c.add_own.new.tiles.items (c.in_ok-add_own.ensures c.args.area near)
          (visit_sifted library (c.args.levels - 1) c.args.part_step spot c.args.area c.rect-back.result c.deref-next-items.result.now c.lawful.ensures
          back kept),
    )

pub visit_spot-requires : goal.visit_spot-requires
visit_spot-requires t c =
    let library = c.args.library.now in
    let spot = c.args.spot.now in
    let can = can_be_visited library.tree c.args.levels c.args.part_step spot c.if-levels-eq0.false c.requires.spot in
    let kept = kept_is library.tree c.tree-2.result.now c.args.part_step spot c.rect-back.result c.deref-next-items.result.now c.in_ok-below.below.items
    c.tree-2.ensures c.deref-next-items.ensures.value c.in_ok-below.ensures.found in (
      omega (arith, c.if-levels-eq0.false),
      (
        c.loop-next.invariant.0,
        (
          below_can_be_visited library.tree (c.args.levels - 1) c.args.part_step spot _ c.lawful.ensures.tree can
              (sifted_in (IsApart library.tree.sizes spot.to_top c.rect-back.result)
              (spots_under library.tree c.args.part_step spot) c.deref-next-items.result.now _
              kept (In-get_or c.deref-next-items.result.now c.loop-next.next-index _ c.loop-next-test.true)),
          c.requires.near,
        ),
      ),
    )

pub loop-next-preserved : goal.loop-next-preserved
loop-next-preserved t c =
    let library = c.args.library.now in
    let spot = c.args.spot.now in
    let can = can_be_visited library.tree c.args.levels c.args.part_step spot c.if-levels-eq0.false c.requires.spot in (
      c.visit_spot.ensures.uses,
      told_next (tree_to (seen library) (c.args.levels - 1)) c.args.area (standing_at (seen library) spot) spot.element
          (spots_under library.tree c.args.part_step spot)
          c.deref-next-items.result.now c.loop-next.next-index (c.loop-next.next-index + 1) _ c.args.tiles.now.items c.loop-next.tiles.items
          c.visit_spot.new.tiles.items
          c.loop-next.invariant.1 (omega arith) (slice_get-get_or c.deref-next-items.result.now c.loop-next.next-index _ c.loop-next-test.true)
          (visit_numbered library (c.args.levels - 1) c.args.part_step spot c.lawful.ensures can) c.in_ok-visit_spot.ensures.tiles,
    )

pub returns-clause-tiles : goal.returns-clause-tiles
returns-clause-tiles t c =
    let library = c.args.library.now in
    visit_all library c.args.levels (c.args.levels - 1) c.args.part_step c.args.spot.now c.args.area c.deref-next-items.result.now
    c.loop-next.next-index
    c.args.tiles.now.items c.loop-next.tiles.items c.lawful.ensures c.requires.spot.cell (omega (arith, c.if-levels-eq0.false))
    (omega (arith, c.loop-next-test.false, c.loop-next.auto)) c.loop-next.invariant.1
