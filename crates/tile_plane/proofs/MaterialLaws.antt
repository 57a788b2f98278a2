-- The tiles of a value other than 0 are the strips of that value, away from the edges of the plane.
use Rattle.tile_plane.proofs.Common.{◌≡◌, ◌≢◌, inl, inr, ℕ, pos, ◌-ℤ◌, sym, ◌∙◌, subst, arith, ints, Square, Rect, corner_of, IsNear, LiesWithin}
use Rattle.tile_plane.proofs.Common.{Covers, IsProper, plane_range, HasValue, IsStrip, Tiles, tile_at, IsTaken, Owns, value_at, square_at}
use Rattle.tile_plane.proofs.Common.{inner_range, IsPlane}
use Rattle.geo_core.proofs.StripSets.{strip_is_proper, strip_same, strip_within, one_strip_at}
use Rattle.geo_core.proofs.CoveringLaws.{corner_covered}
use Rattle.tile_plane.proofs.TileLaws.{owner_taken}
use Rattle.tile_plane.proofs.HandLaws.{covers_or_not}
use Rattle.tile_plane.proofs.StripLaws.{tile_strip}
use Rattle.tile_plane.proofs.ValueLaws.{value_of_owner, value_off_range}

-- a tile has the square in its lower left corner
pub corner_owned : (tiles : Tiles) (id : ℕ) → IsTaken tiles id → Owns tiles id (corner_of (tile_at tiles id).area)
corner_owned tiles id taken = record { covers = corner_covered (tile_at tiles id).area taken.proper }

-- where all its squares lie in an area, so does a tile
pub tile_within : (tiles : Tiles) (id : ℕ) (area : Rect) → IsTaken tiles id → ((square : Square) → Owns tiles id square → Covers area square)
    → LiesWithin (tile_at tiles id).area area
tile_within tiles id area taken each =
    let own = (tile_at tiles id).area in
    let proper = taken.proper in
    let low = each (corner_of own) (corner_owned tiles id taken) in
    let last : Owns tiles id (square_at (own.xhi -ℤ pos 1) (own.yhi -ℤ pos 1)) = record {
      covers = record {
        right_of_xlo = omega (arith, ints);
        left_of_xhi = omega (arith, ints);
        above_ylo = omega (arith, ints);
        below_yhi = omega (arith, ints);
      };
    } in
    let high = each (square_at (own.xhi -ℤ pos 1) (own.yhi -ℤ pos 1)) last in
    record { right_of_xlo = low.right_of_xlo; above_ylo = low.above_ylo; left_of_xhi = omega (arith, ints); below_yhi = omega (arith, ints) }

-- what keeps off the edges is near
pub near_from_inner : (area : Rect) → IsProper area → LiesWithin area inner_range → IsNear area
near_from_inner area proper within = record {
  xlo = (omega (arith, ints), omega (arith, ints));
  ylo = (omega (arith, ints), omega (arith, ints));
  xhi = (omega (arith, ints), omega (arith, ints));
  yhi = (omega (arith, ints), omega (arith, ints));
}

module _ (tiles : Tiles) (plane : IsPlane tiles) where
  -- a square with a value has a tile
  pub owner_of : (square : Square) → value_at tiles square ≢ 0 → (id : ℕ) × Owns tiles id square
  owner_of square material = elim (covers_or_not plane_range square) [
    | inl inside ↦ plane.partition.whole square inside
    | inr off ↦ absurd (material (value_off_range tiles square plane.partition off))
  ]

  -- a tile of a value other than 0 is a strip of it
  pub tile_is_strip : (id : ℕ) → IsTaken tiles id → (tile_at tiles id).value ≢ 0 → IsStrip (HasValue (value_at tiles) (tile_at tiles id).value)
      (tile_at tiles id).area
  tile_is_strip id taken material =
      let value = (tile_at tiles id).value in
      strip_same (λ square. HasValue (value_at tiles) value square × Covers plane_range square) (HasValue (value_at tiles) value)
      (λ square has. has.0)
      (λ square has. (
        has,
        elim (covers_or_not plane_range square) [
          | inl inside ↦ inside
          | inr off ↦ absurd (material (sym has ∙ value_off_range tiles square plane.partition off))
        ],
      ))
      (tile_at tiles id).area (tile_strip tiles plane.partition id taken plane.strips)

  -- and each strip of such a value is a tile
  pub strip_is_tile : (value : ℕ) (area : Rect) → value ≢ 0 → IsStrip (HasValue (value_at tiles) value) area
      → (id : ℕ) × IsTaken tiles id × ((tile_at tiles id).value ≡ value) × ((tile_at tiles id).area ≡ area)
  strip_is_tile value area material strip =
      let corner = corner_of area in
      let covered = corner_covered area (strip_is_proper (HasValue (value_at tiles) value) area strip) in
      let has = strip_within (HasValue (value_at tiles) value) area strip corner.x corner.y covered in
      let found = owner_of corner (λ e. material (sym has ∙ e)) in
      let taken = owner_taken tiles found.0 corner found.1 in
      let same : (tile_at tiles found.0).value ≡ value = sym (value_of_owner tiles found.0 corner plane.partition found.1) ∙ has in
      let its = subst (λ (v : ℕ). IsStrip (HasValue (value_at tiles) v) (tile_at tiles found.0).area) same
      (tile_is_strip found.0 taken (λ e. material (sym same ∙ e))) in
      (found.0, taken, same, one_strip_at (HasValue (value_at tiles) value) (tile_at tiles found.0).area area its strip corner found.1.covers covered)

  inner : (id : ℕ) (square : Square) → (tile_at tiles id).value ≢ 0 → Owns tiles id square → Covers inner_range square
  inner id square material owns = plane.space square (λ e. material (sym (value_of_owner tiles id square plane.partition owns) ∙ e))

  -- such a tile keeps off the edges
  pub tile_is_near : (id : ℕ) → IsTaken tiles id → (tile_at tiles id).value ≢ 0 → IsNear (tile_at tiles id).area
  tile_is_near id taken material =
      near_from_inner (tile_at tiles id).area taken.proper (tile_within tiles id inner_range taken (λ square owns. inner id square material owns))
