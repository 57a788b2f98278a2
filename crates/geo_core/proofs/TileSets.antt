-- Tiles of a plane in an area: they lie apart, inside the area, and each square of one has its value.
use Rattle.geo_core.proofs.Common.{◌≡◌, ℕ, List, get_or, sym, ◌∙◌, ap, subst, arith, AllPairs, ints, clamps, In-get_or, Square, Rect, Piece}
use Rattle.geo_core.proofs.Common.{AreDisjoint, common_rect, LiesWithin, Covers, IsStrip, StandsBefore}
use Rattle.geo_core.specs.Planes.{HasValue, IsTileIn, AreTilesIn}
use Rattle.geo_core.proofs.CoveringLaws.{covers_first}
use Rattle.geo_core.proofs.StripSets.{StandsBefore-irreflexive, one_strip_at, strip_within}

-- a square of a tile has its value
pub tile_value : (values : Square → ℕ) (area : Rect) (tile : Piece) → IsTileIn values area tile → (square : Square) → Covers tile.area square
    → values square ≡ tile.value
tile_value values area tile is square covers =
    strip_within (HasValue values tile.value) is.strip is.is_strip square.x square.y
    (covers_first is.strip area square (subst (λ (a : Rect). Covers a square) is.cut covers))

-- a tile goes nowhere past an edge of the area
pub tile_inside : (values : Square → ℕ) (area : Rect) (tile : Piece) → IsTileIn values area tile → LiesWithin tile.area area
tile_inside values area tile is = subst (λ (a : Rect). LiesWithin a area) (sym is.cut) (common_inside is.strip area)
  where
    common_inside : (a b : Rect) → LiesWithin (common_rect a b) b
    common_inside a b = record {
      right_of_xlo = omega (arith, ints, clamps);
      above_ylo = omega (arith, ints, clamps);
      left_of_xhi = omega (arith, ints, clamps);
      below_yhi = omega (arith, ints, clamps);
    }

-- tiles that share a square have one area
pub one_tile_at : (values : Square → ℕ) (area : Rect) (a b : Piece) → IsTileIn values area a → IsTileIn values area b → (square : Square)
    → Covers a.area square → Covers b.area square → a.area ≡ b.area
one_tile_at values area a b p q square c d =
    let value : a.value ≡ b.value = sym (tile_value values area a p square c) ∙ tile_value values area b q square d in
    let strip : IsStrip (HasValue values b.value) p.strip = subst (λ (v : ℕ). IsStrip (HasValue values v) p.strip) value p.is_strip in
    let first = covers_first p.strip area square (subst (λ (r : Rect). Covers r square) p.cut c) in
    let second = covers_first q.strip area square (subst (λ (r : Rect). Covers r square) q.cut d) in
    p.cut ∙ ap (λ (r : Rect). common_rect r area) (one_strip_at (HasValue values b.value) p.strip q.strip strip q.is_strip square first second) ∙ sym q.cut

-- no square lies in two tiles
pub tiles_apart : (values : Square → ℕ) (area : Rect) (tiles : List Piece) → AreTilesIn values area tiles → AllPairs (λ a b. AreDisjoint a.area b.area) tiles
tiles_apart values area tiles are i j d less below square c c' =
    let a = get_or tiles i d in
    let b = get_or tiles j d in
    let same = one_tile_at values area a b (are.each a (In-get_or tiles i d (omega arith))) (are.each b (In-get_or tiles j d below)) square c c' in
    StandsBefore-irreflexive a.area (subst (StandsBefore a.area) (sym same) (are.ordered i j d less below))
