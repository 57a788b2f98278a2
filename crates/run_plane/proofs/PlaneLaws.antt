-- What the strips and tiles of the pieces of rows say of the rows.
use Rattle.run_plane.proofs.Common.{◌≡◌, ◌≢◌, ℕ, ℤ, pos, ◌+ℤ◌, ◌-ℤ◌, ◌≤ℤ◌, ◌<ℤ◌, List, refl, sym, ◌∙◌, ap, subst, arith, ◌^◌, int_min, int_max}
use Rattle.run_plane.proofs.Common.{cases_eq, ints, clamps, PLANE_EDGE, Square, Rect, Piece, common_rect, IsProper, HasValue, AreTilesIn, IsStrips}
use Rattle.run_plane.proofs.Common.{rect_is, Row, number_at, edge, AreRows, AreBetween, IsInPieces, AreTilesFrom}
use Rattle.geo_core.specs.Planes.{IsTileIn}
use Rattle.geo_core.proofs.StripSets.{strip_same, strips_same, InBand, clipped, strip_clipped, strip_of_band}
use Rattle.run_plane.specs.steps.Listings.{AgreeOnSquares, IsTileFrom}
use Rattle.run_plane.proofs.BoxLaws.{number_near}

module _ (rows : List Row) (low high : ℤ) (pieces : List Piece) (between : AreBetween rows low high pieces) where
  -- pieces that cover one square have its number
  pub pieces_agree : AgreeOnSquares pieces
  pieces_agree a b i j square c d = sym (between.each a i square c).2 ∙ (between.each b j square d).2

  -- the squares of the pieces of a value are those of the band with that value
  to_band : (value : ℕ) (square : Square) → IsInPieces pieces value square → InBand (HasValue (number_at rows) value) low high square
  to_band value square covered =
      let at = between.each covered.0 covered.1 square covered.3 in
      (at.2 ∙ covered.2, at.0, at.1)

  from_band : (value : ℕ) → value ≢ 0 → (square : Square) → InBand (HasValue (number_at rows) value) low high square → IsInPieces pieces value square
  from_band value material square at =
      let found = between.every square at.1 at.2 (λ e. material (sym at.0 ∙ e)) in
      (found.0, found.1, sym (between.each found.0 found.1 square found.2).2 ∙ at.0, found.2)

-- the strips of the pieces between all heights are those of the rows
pub strips_of_rows : (rows : List Row) (pieces : List Piece) (value : ℕ) (found : List Rect) → AreRows rows → AreBetween rows edge PLANE_EDGE pieces → value ≢ 0
    → IsStrips (IsInPieces pieces value) found → IsStrips (HasValue (number_at rows) value) found
strips_of_rows rows pieces value found are between material strips =
    strips_same (IsInPieces pieces value) (HasValue (number_at rows) value)
    (λ square covered. (to_band rows edge PLANE_EDGE pieces between value square covered).0)
    (λ square at.
    let near = number_near rows square are (λ e. material (sym at ∙ e)) in
    let low : (edge +ℤ pos 1) ≤ℤ square.y = near.1.0 in
    let high : square.y <ℤ (PLANE_EDGE -ℤ pos 1) = near.1.1 in
    from_band rows edge PLANE_EDGE pieces between value material square (at, omega (arith, ints), omega (arith, ints)))
    found strips

-- what a part has in common with a rectangle of the band's heights
common_clipped : (a area : Rect) → common_rect (clipped area.ylo area.yhi a) area ≡ common_rect a area
common_clipped a area = rect_is (common_rect (clipped area.ylo area.yhi a) area) (common_rect a area) refl (omega (arith, ints, clamps)) refl
    (omega (arith, ints, clamps))

module _ (rows : List Row) (area : Rect) (pieces tiles : List Piece) (are : AreRows rows) (between : AreBetween rows area.ylo area.yhi pieces) where
  abbrev Numbered : ℕ → Square → Type 0
  Numbered value = HasValue (number_at rows) value

  tile_in : (tile : Piece) → IsTileFrom pieces area tile → IsTileIn (number_at rows) area tile
  tile_in tile is =
      let value = tile.value in
      let part = strip_same (IsInPieces pieces value) (InBand (Numbered value) area.ylo area.yhi)
      (to_band rows area.ylo area.yhi pieces between value) (from_band rows area.ylo area.yhi pieces between value is.material) is.strip is.is_strip in
      let whole = strip_of_band (Numbered value) area.ylo area.yhi (λ square. cases_eq (number_at rows square) value) edge PLANE_EDGE
      (λ square at.
      let near = number_near rows square are (λ e. is.material (sym at ∙ e)) in
      let low : (edge +ℤ pos 1) ≤ℤ square.y = near.1.0 in
      let high : square.y <ℤ (PLANE_EDGE -ℤ pos 1) = near.1.1 in
      (omega (arith, ints), omega (arith, ints)))
      is.strip part in
      record {
        material = is.material;
        strip = whole.0;
        is_strip = whole.1;
        cut = is.cut ∙ ap (λ (r : Rect). common_rect r area) (sym whole.2) ∙ common_clipped whole.0 area;
        meets = is.meets;
      }

  tile_of : (tile : Piece) → IsTileIn (number_at rows) area tile → IsTileFrom pieces area tile
  tile_of tile is =
      let value = tile.value in
      let proper = subst IsProper is.cut is.meets in
      let tall : int_max is.strip.ylo area.ylo <ℤ int_min is.strip.yhi area.yhi = proper.high in
      let part = strip_clipped (Numbered value) area.ylo area.yhi is.strip is.is_strip tall in
      record {
        material = is.material;
        strip = clipped area.ylo area.yhi is.strip;
        is_strip = strip_same (InBand (Numbered value) area.ylo area.yhi) (IsInPieces pieces value)
            (from_band rows area.ylo area.yhi pieces between value is.material) (to_band rows area.ylo area.yhi pieces between value)
            (clipped area.ylo area.yhi is.strip) part;
        cut = is.cut ∙ sym (common_clipped is.strip area);
        meets = is.meets;
      }

  -- the tiles of the pieces in the band are those of the rows
  pub tiles_of_rows : AreTilesFrom pieces area tiles → AreTilesIn (number_at rows) area tiles
  tiles_of_rows found = record {
    each = λ tile i. tile_in tile (found.each tile i);
    every = λ tile is. found.every tile (tile_of tile is);
    whole = λ square inside material.
        let value = number_at rows square in
        let t = found.whole value square material inside (from_band rows area.ylo area.yhi pieces between value material square
        (refl, inside.above_ylo, inside.below_yhi)) in
        (t.tile, t.in_list, t.covers, t.value_is);
    ordered = found.ordered;
  }
