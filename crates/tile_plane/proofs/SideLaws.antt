-- The tiles along the sides of a tile begin where it ends.
use Rattle.tile_plane.proofs.Common.{◌≡◌, ℕ, ℤ, pos, ◌-ℤ◌, ◌≤ℤ◌, ◌<ℤ◌, subst, arith, ints, by_lt_z, Square, Rect, LiesWithin, Covers, Tiles, tile_at}
use Rattle.tile_plane.proofs.Common.{IsTaken, Owns, IsPartition, square_at, opposite, Side, Above, Right, Below, Left, square_of, along, end_of}
use Rattle.tile_plane.proofs.Common.{HasLine, square_beside}

-- a tile that shares a square with another is that one, so it has no square that the other has not
pub strangers : (tiles : Tiles) (a b : ℕ) (s t : Square) → IsPartition tiles → Owns tiles a s → Owns tiles b s → Owns tiles a t
    → Covers (tile_at tiles b).area t
strangers tiles a b s t partition p q r = subst (λ (v : ℕ). Covers (tile_at tiles v).area t) (partition.one a b s p q) r.covers

pub beside_right : (tiles : Tiles) (id n : ℕ) (h : ℤ) → IsPartition tiles → IsTaken tiles id → (tile_at tiles id).area.ylo ≤ℤ h
    → h <ℤ (tile_at tiles id).area.yhi
    → Owns tiles n (square_at (tile_at tiles id).area.xhi h) → (tile_at tiles n).area.xlo ≡ (tile_at tiles id).area.xhi
beside_right tiles id n h partition taken low high owns =
    by_lt_z (tile_at tiles n).area.xlo (tile_at tiles id).area.xhi
    (λ both.
    let past = strangers tiles n id (square_at ((tile_at tiles id).area.xhi -ℤ pos 1) h) (square_at (tile_at tiles id).area.xhi h) partition
    (omega (arith, ints)) (omega (arith, ints)) owns in
    absurd (omega (arith, ints)))
    (λ touches. omega (arith, ints))

pub beside_above : (tiles : Tiles) (id n : ℕ) (h : ℤ) → IsPartition tiles → IsTaken tiles id → (tile_at tiles id).area.xlo ≤ℤ h
    → h <ℤ (tile_at tiles id).area.xhi
    → Owns tiles n (square_at h (tile_at tiles id).area.yhi) → (tile_at tiles n).area.ylo ≡ (tile_at tiles id).area.yhi
beside_above tiles id n h partition taken low high owns =
    by_lt_z (tile_at tiles n).area.ylo (tile_at tiles id).area.yhi
    (λ both.
    let past = strangers tiles n id (square_at h ((tile_at tiles id).area.yhi -ℤ pos 1)) (square_at h (tile_at tiles id).area.yhi) partition
    (omega (arith, ints)) (omega (arith, ints)) owns in
    absurd (omega (arith, ints)))
    (λ touches. omega (arith, ints))

pub beside_left : (tiles : Tiles) (id n : ℕ) (h : ℤ) → IsPartition tiles → IsTaken tiles id → (tile_at tiles id).area.ylo ≤ℤ h
    → h <ℤ (tile_at tiles id).area.yhi
    → Owns tiles n (square_at ((tile_at tiles id).area.xlo -ℤ pos 1) h) → (tile_at tiles n).area.xhi ≡ (tile_at tiles id).area.xlo
beside_left tiles id n h partition taken low high owns =
    by_lt_z (tile_at tiles id).area.xlo (tile_at tiles n).area.xhi
    (λ both.
    let past = strangers tiles n id (square_at (tile_at tiles id).area.xlo h) (square_at ((tile_at tiles id).area.xlo -ℤ pos 1) h) partition
    (omega (arith, ints)) (omega (arith, ints)) owns in
    absurd (omega (arith, ints)))
    (λ touches. omega (arith, ints))

pub beside_below : (tiles : Tiles) (id n : ℕ) (h : ℤ) → IsPartition tiles → IsTaken tiles id → (tile_at tiles id).area.xlo ≤ℤ h
    → h <ℤ (tile_at tiles id).area.xhi
    → Owns tiles n (square_at h ((tile_at tiles id).area.ylo -ℤ pos 1)) → (tile_at tiles n).area.yhi ≡ (tile_at tiles id).area.ylo
beside_below tiles id n h partition taken low high owns =
    by_lt_z (tile_at tiles id).area.ylo (tile_at tiles n).area.yhi
    (λ both.
    let past = strangers tiles n id (square_at h (tile_at tiles id).area.ylo) (square_at h ((tile_at tiles id).area.ylo -ℤ pos 1)) partition
    (omega (arith, ints)) (omega (arith, ints)) owns in
    absurd (omega (arith, ints)))
    (λ touches. omega (arith, ints))

-- an area reaches the side of the tile that holds it, and another tile has a square beside it there
module _ {tiles : Tiles} {area : Rect} {id k : ℕ} (c : ℤ) (partition : IsPartition tiles) (taken : IsTaken tiles id)
    (within : LiesWithin area (tile_at tiles id).area) where
  -- that one begins where the area ends
  touches : (side : Side) → end_of side (tile_at tiles id).area ≡ end_of side area → HasLine side area c → Owns tiles k (square_beside side area c)
      → end_of (opposite side) (tile_at tiles k).area ≡ end_of side area
  touches Above edge line owns = let e = beside_above tiles id k c partition taken (omega (arith, ints)) (omega (arith, ints)) (omega (arith, ints)) in omega (arith, ints)
  touches Right edge line owns = let e = beside_right tiles id k c partition taken (omega (arith, ints)) (omega (arith, ints)) (omega (arith, ints)) in omega (arith, ints)
  touches Below edge line owns = let e = beside_below tiles id k c partition taken (omega (arith, ints)) (omega (arith, ints)) (omega (arith, ints)) in omega (arith, ints)
  touches Left edge line owns = let e = beside_left tiles id k c partition taken (omega (arith, ints)) (omega (arith, ints)) (omega (arith, ints)) in omega (arith, ints)

  -- so it has no stitch along the side that leads into the area
  pub apart : (side : Side) → end_of side (tile_at tiles id).area ≡ end_of side area → HasLine side area c → Owns tiles k (square_beside side area c)
      → Covers area (square_of (along side) (tile_at tiles k)) → ⊥
  apart Above edge line owns covers = let e = touches Above edge line owns in omega (arith, ints)
  apart Right edge line owns covers = let e = touches Right edge line owns in omega (arith, ints)
  apart Below edge line owns covers = let e = touches Below edge line owns in omega (arith, ints)
  apart Left edge line owns covers = let e = touches Left edge line owns in omega (arith, ints)
