-- Sides of tiles with x and y exchanged: above is right and below is left, and what is mended there is mended here.
use Rattle.tile_plane.proofs.Common.{◌≡◌, ℕ, pos, ◌-ℤ◌, refl, sym, ◌∙◌, ap, subst, arith, ints, Rect, LiesWithin, Covers, Tile, Tiles, tile_at}
use Rattle.tile_plane.proofs.Common.{Leads, IsPut, square_above, square_below, square_at}
use Rattle.tile_plane.specs.steps.Mends.{
  Side,
  Above,
  Right,
  Below,
  Left,
  stitch_of,
  square_of,
  with_stitch,
  LeadTo,
  IsSideOf,
}
use Rattle.tile_plane.proofs.Transposed.{swap_rect, swap_tile, transposed, tile_at-transposed, area_is, taken_over, owns_over, owns_back}

abbrev pub swap_side : Side → Side
swap_side Above = Right
swap_side Right = Above
swap_side Below = Left
swap_side Left = Below

stitch_over : (side : Side) (tile : Tile) → stitch_of (swap_side side) (swap_tile tile) ≡ stitch_of side tile
stitch_over Above tile = refl
stitch_over Right tile = refl
stitch_over Below tile = refl
stitch_over Left tile = refl

with_stitch_over : (side : Side) (tile : Tile) (n : ℕ) → swap_tile (with_stitch (swap_side side) (swap_tile tile) n) ≡ with_stitch side tile n
with_stitch_over Above tile n = refl
with_stitch_over Right tile n = refl
with_stitch_over Below tile n = refl
with_stitch_over Left tile n = refl

covers_over : (side : Side) (area : Rect) (tile : Tile) → Covers area (square_of side tile)
    → Covers (swap_rect area) (square_of (swap_side side) (swap_tile tile))
covers_over Above area tile covers = omega (arith, ints)
covers_over Right area tile covers = omega (arith, ints)
covers_over Below area tile covers = omega (arith, ints)
covers_over Left area tile covers = omega (arith, ints)

covers_back : (side : Side) (area : Rect) (tile : Tile) → Covers (swap_rect area) (square_of (swap_side side) (swap_tile tile))
    → Covers area (square_of side tile)
covers_back Above area tile covers = omega (arith, ints)
covers_back Right area tile covers = omega (arith, ints)
covers_back Below area tile covers = omega (arith, ints)
covers_back Left area tile covers = omega (arith, ints)

-- stitches that are mended in the exchanged tiles are mended
pub lead_back : (side : Side) (area : Rect) (id : ℕ) (old new : Tiles) → LeadTo (swap_side side) (swap_rect area) id (transposed old) (transposed new)
    → LeadTo side area id old new
lead_back side area id old new led = record {
  rest = λ k. ap swap_tile (subst (λ (u : Tile). u ≡ with_stitch (swap_side side) (swap_tile (tile_at old k)) (stitch_of (swap_side side) u)) (is new k)
      (subst (λ (t : Tile). tile_at (transposed new) k ≡ with_stitch (swap_side side) t (stitch_of (swap_side side) (tile_at (transposed new) k))) (is old k)
      (led.rest k)))
      ∙ with_stitch_over side (tile_at old k) _
      ∙ ap (with_stitch side (tile_at old k)) (stitch_over side (tile_at new k));
  inside = λ k taken covers. sym (stitch_is new k) ∙ led.inside k (taken_over old k taken)
      (subst (λ (t : Tile). Covers (swap_rect area) (square_of (swap_side side) t)) (sym (is old k)) (covers_over side area (tile_at old k) covers));
  outside = λ k off. sym (stitch_is new k)
      ∙ led.outside k (λ covers. off (covers_back side area (tile_at old k)
      (subst (λ (t : Tile). Covers (swap_rect area) (square_of (swap_side side) t)) (is old k) covers)))
      ∙ stitch_is old k;
} where
  is : (tiles : Tiles) (k : ℕ) → tile_at (transposed tiles) k ≡ swap_tile (tile_at tiles k)
  is = tile_at-transposed

  stitch_is : (tiles : Tiles) (k : ℕ) → stitch_of (swap_side side) (tile_at (transposed tiles) k) ≡ stitch_of side (tile_at tiles k)
  stitch_is tiles k = ap (stitch_of (swap_side side)) (is tiles k) ∙ stitch_over side (tile_at tiles k)

-- a tile that is put, or read
pub put_over : {id : ℕ} {tile : Tile} {old new : Tiles} → IsPut id tile old new → IsPut id (swap_tile tile) (transposed old) (transposed new)
put_over {id = id} {old = old} {new = new} put = record {
  here = tile_at-transposed new id ∙ ap swap_tile put.here;
  others = λ k n. tile_at-transposed new k ∙ ap swap_tile (put.others k n) ∙ sym (tile_at-transposed old k);
}

pub read_over : (id : ℕ) (tile : Tile) (tiles : Tiles) → tile ≡ tile_at tiles id → swap_tile tile ≡ tile_at (transposed tiles) id
read_over id tile tiles is = ap swap_tile is ∙ sym (tile_at-transposed tiles id)

module _ {tiles : Tiles} {area : Rect} {first id : ℕ} where
  pub right_over : IsSideOf Right tiles area first id → IsSideOf Above (transposed tiles) (swap_rect area) first id
  right_over side = record {
    proper = let proper = side.proper in omega (arith, ints);
    within = subst (LiesWithin (swap_rect area)) (sym (area_is tiles id)) (let within = side.within in omega (arith, ints));
    edge = ap (λ (r : Rect). r.yhi) (area_is tiles id) ∙ side.edge;
    leads = λ inside. owns_over tiles first (square_at area.xhi (area.yhi -ℤ pos 1)) (side.leads (omega (arith, ints)));
    onward = λ k c line owns.
        let leads = side.onward k c line (owns_back tiles k (square_at area.xhi c) owns) in
        subst (λ (t : Tile). Leads (transposed tiles) (stitch_of Left t) (square_of Left t)) (sym (tile_at-transposed tiles k))
        (λ inside. owns_over tiles _ (square_below (tile_at tiles k)) (leads (omega (arith, ints))));
  }

  pub left_over : IsSideOf Left tiles area first id → IsSideOf Below (transposed tiles) (swap_rect area) first id
  left_over side = record {
    proper = let proper = side.proper in omega (arith, ints);
    within = subst (LiesWithin (swap_rect area)) (sym (area_is tiles id)) (let within = side.within in omega (arith, ints));
    edge = ap (λ (r : Rect). r.ylo) (area_is tiles id) ∙ side.edge;
    leads = λ inside. owns_over tiles first (square_at (area.xlo -ℤ pos 1) area.ylo) (side.leads (omega (arith, ints)));
    onward = λ k c line owns.
        let leads = side.onward k c line (owns_back tiles k (square_at (area.xlo -ℤ pos 1) c) owns) in
        subst (λ (t : Tile). Leads (transposed tiles) (stitch_of Right t) (square_of Right t)) (sym (tile_at-transposed tiles k))
        (λ inside. owns_over tiles _ (square_above (tile_at tiles k)) (leads (omega (arith, ints))));
  }
