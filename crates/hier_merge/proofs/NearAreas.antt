-- Areas that lie near, and the tiles that are found in them.
use Rattle.hier_merge.proofs.Common.{◌<◌, ◌≤ℤ◌, ◌<ℤ◌, pos, List, [], ◌∷◌, length, inl, inr, refl, sym, subst, arith, All, ints, In, In-append_cases}
use Rattle.hier_merge.proofs.Common.{All-from_In, All-In, Square, Rect, widened, IsNear, IsProper, rect_image, IsStrips, strip_is_proper, RawTech}
use Rattle.hier_merge.proofs.Common.{CellTree, parts_in, IsLawfulBox, PartTile, IsPartTileIn, AreOfParts, AreVisits}
use Rattle.std.proofs.Common.{◌-ℤ◌, ◌+ℤ◌, neg_ℤ}
use Rattle.std.proofs.lemmas.Int.{clamps}
use Rattle.geo_core.specs.declared.limits.TheConstants.{PAINT_EDGE, PLANE_EDGE}
use Rattle.geo_core.specs.Areas.{common_rect, LiesWithin}
use Rattle.cell_library.proofs.PartLaws.{part_is_there}

-- the range of paint, and one square more on every side
abbrev around_paint : Rect
around_paint = record {
  xlo = neg_ℤ PAINT_EDGE -ℤ pos 1;
  ylo = neg_ℤ PAINT_EDGE -ℤ pos 1;
  xhi = PAINT_EDGE +ℤ pos 1;
  yhi = PAINT_EDGE +ℤ pos 1;
}

-- grown by one they lie within the range of paint, with one square more on every side
grown_around : (boxes : List Rect) → All IsLawfulBox boxes → All (λ area. LiesWithin (widened area) around_paint) boxes
grown_around boxes lawful = All-from_In (λ area. LiesWithin (widened area) around_paint) boxes (λ box among.
    let is = All-In IsLawfulBox boxes box lawful among in
    let left : neg_ℤ PAINT_EDGE ≤ℤ box.xlo = is.spans.xlo.low in
    let low : neg_ℤ PAINT_EDGE ≤ℤ box.ylo = is.spans.ylo.low in
    let right : box.xhi ≤ℤ PAINT_EDGE = is.spans.xhi.high in
    let high : box.yhi ≤ℤ PAINT_EDGE = is.spans.yhi.high in
    record {
      right_of_xlo = omega (arith, ints);
      above_ylo = omega (arith, ints);
      left_of_xhi = omega (arith, ints);
      below_yhi = omega (arith, ints);
    })

-- a rectangle with a square that lies there is near
within_is_near : (area : Rect) → LiesWithin area around_paint → IsProper area → IsNear area
within_is_near area within proper =
    let left : (neg_ℤ PAINT_EDGE -ℤ pos 1) ≤ℤ area.xlo = within.right_of_xlo in
    let low : (neg_ℤ PAINT_EDGE -ℤ pos 1) ≤ℤ area.ylo = within.above_ylo in
    let right : area.xhi ≤ℤ (PAINT_EDGE +ℤ pos 1) = within.left_of_xhi in
    let high : area.yhi ≤ℤ (PAINT_EDGE +ℤ pos 1) = within.below_yhi in
    let wide : area.xlo <ℤ area.xhi = proper.wide in
    let tall : area.ylo <ℤ area.yhi = proper.high in
    record {
      xlo = (omega (arith, ints), omega (arith, ints));
      ylo = (omega (arith, ints), omega (arith, ints));
      xhi = (omega (arith, ints), omega (arith, ints));
      yhi = (omega (arith, ints), omega (arith, ints));
    }

-- strips have squares
pub strips_are_proper : (S : Square → Type 0) (areas : List Rect) → IsStrips S areas → All IsProper areas
strips_are_proper S areas are = All-from_In IsProper areas (λ area among. strip_is_proper S area (are.each area among))

-- areas that go nowhere past what lawful boxes, grown by one, do not are near
pub areas_are_near : (boxes areas : List Rect) → All IsLawfulBox boxes → All IsProper areas
    → ((around : Rect) → All (λ area. LiesWithin (widened area) around) boxes → All (λ area. LiesWithin area around) areas) → All IsNear areas
areas_are_near boxes areas lawful proper within = All-from_In IsNear areas (λ area among.
    within_is_near area
    (All-In (λ a. LiesWithin a around_paint) areas area (within around_paint (grown_around boxes lawful)) among)
    (All-In IsProper areas area proper among))

-- ---- tiles

-- a tile of several visits is one of some area's
pub in_some_area : (raw : RawTech) (tree : CellTree) (areas : List Rect) (tiles : List PartTile) → AreVisits raw tree areas tiles → (tile : PartTile)
    → In tile tiles → (area : Rect) × (In area areas × IsPartTileIn tree area tile)
in_some_area raw tree [] tiles visits tile among = absurd (subst (In tile) visits among)
in_some_area raw tree (area ∷ areas) tiles (first, rest, are, visit, visits) tile among =
    elim (In-append_cases tile first rest (subst (In tile) are among)) [
      | inl here ↦ (area, (inl refl, visit.lists.2 tile here))
      | inr later ↦ let found = in_some_area raw tree areas rest visits tile later in (found.0, (inr found.1.0, found.1.1))
    ]

-- what a near area has in common with another rectangle is near, where that has a square
common_is_near : (one area : Rect) → IsNear area → IsProper (common_rect one area) → IsNear (common_rect one area)
common_is_near one area near proper =
    let wide : (common_rect one area).xlo <ℤ (common_rect one area).xhi = proper.wide in
    let tall : (common_rect one area).ylo <ℤ (common_rect one area).yhi = proper.high in
    let left : neg_ℤ PLANE_EDGE <ℤ area.xlo = near.xlo.0 in
    let low : neg_ℤ PLANE_EDGE <ℤ area.ylo = near.ylo.0 in
    let right : area.xhi <ℤ PLANE_EDGE = near.xhi.1 in
    let high : area.yhi <ℤ PLANE_EDGE = near.yhi.1 in
    record {
      xlo = (omega (arith, ints, clamps), omega (arith, ints, clamps));
      ylo = (omega (arith, ints, clamps), omega (arith, ints, clamps));
      xhi = (omega (arith, ints, clamps), omega (arith, ints, clamps));
      yhi = (omega (arith, ints, clamps), omega (arith, ints, clamps));
    }

-- the tiles of visits of near areas are of the cell's parts, and near
pub tiles_are_of_parts : (raw : RawTech) (tree : CellTree) (areas : List Rect) (tiles : List PartTile) → AreVisits raw tree areas tiles
    → All IsNear areas → AreOfParts (length (parts_in raw tree)) tiles
tiles_are_of_parts raw tree areas tiles visits near =
    All-from_In (λ (tile : PartTile). (tile.part < length (parts_in raw tree)) × IsNear tile.area) tiles (λ tile among.
    let found = in_some_area raw tree areas tiles visits tile among in
    let is = found.1.1 in
    let image = rect_image is.standing.placed is.strip in (
      part_is_there raw tree found.0 tile is,
      subst IsNear (sym is.cut) (common_is_near image found.0 (All-In IsNear areas found.0 near found.1.0) (subst IsProper is.cut is.meets)),
    ))
