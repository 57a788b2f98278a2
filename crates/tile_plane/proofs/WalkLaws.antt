-- Walks from tile to tile: each step is nearer to the end, and a walk along the side of a tile keeps to it.
use Rattle.tile_plane.proofs.Common.{◌≡◌, ℕ, ◌<◌, ℤ, pos, ◌+ℤ◌, ◌-ℤ◌, ◌≤ℤ◌, ◌<ℤ◌, FitsSigned, w64, to_z, of_z, refl, ap, subst, arith, ints, by_lt_z}
use Rattle.tile_plane.proofs.Common.{to_z-of_z, extent, Rect, LiesWithin, Covers, IsProper, plane_range, Tile, Tiles, tile_at, IsTaken, Owns, Leads}
use Rattle.tile_plane.proofs.Common.{IsPartition, HasStitches, square_at, Side, Above, Right, Below, Left, stitch_of, square_of, along, GoesOn}
use Rattle.tile_plane.proofs.Common.{HasLine, first_of, square_beside, IsShort, IsLast}
use Rattle.geo_core.proofs.FiniteSets.Ranges.{extent_up, extent_none}
use Rattle.tile_plane.proofs.TileLaws.{owner_taken}
use Rattle.tile_plane.proofs.SideLaws.{beside_right, beside_above, beside_left, beside_below}
use Rattle.tile_plane.proofs.BesideLaws.{next_beside}

-- a nearer end has less to go
pub extent_falls : (lo next hi : ℤ) → lo <ℤ next → lo <ℤ hi → extent next hi < extent lo hi
extent_falls lo next hi p q = by_lt_z hi next
    (λ h. let e = extent_none next hi (omega (arith, ints)) in let f = extent_up lo hi (omega (arith, ints)) in omega (arith, ints, e, f))
    (λ h. let e = extent_up next hi h in let f = extent_up lo hi (omega (arith, ints)) in omega (arith, ints, e, f))

pub extent_falls_down : (lo next hi : ℤ) → next <ℤ hi → lo <ℤ hi → extent lo next < extent lo hi
extent_falls_down lo next hi p q = by_lt_z next lo
    (λ h. let e = extent_none lo next (omega (arith, ints)) in let f = extent_up lo hi (omega (arith, ints)) in omega (arith, ints, e, f))
    (λ h. let e = extent_up lo next h in let f = extent_up lo hi (omega (arith, ints)) in omega (arith, ints, e, f))

pub goes_on_or_last : (side : Side) (area : Rect) → (IsLast side area → ⊥) → GoesOn side area
goes_on_or_last Above area off = by_lt_z area.yhi plane_range.yhi (λ p. p) (λ p. absurd (off p))
goes_on_or_last Right area off = by_lt_z area.xhi plane_range.xhi (λ p. p) (λ p. absurd (off p))
goes_on_or_last Below area off = by_lt_z plane_range.ylo area.ylo (λ p. p) (λ p. absurd (off p))
goes_on_or_last Left area off = by_lt_z plane_range.xlo area.xlo (λ p. p) (λ p. absurd (off p))

-- the tile beside a tile at a row or a column that was read as a signed number
pub leads_at : (side : Side) (tiles : Tiles) (id n : ℕ) (at : ℤ) → FitsSigned w64 at
    → Leads tiles n (square_beside side (tile_at tiles id).area (to_z w64 (of_z w64 at))) → Leads tiles n (square_beside side (tile_at tiles id).area at)
leads_at side tiles id n at fits = subst (λ (v : ℤ). Leads tiles n (square_beside side (tile_at tiles id).area v)) (to_z-of_z w64 at fits)

-- where the range ends, no square is beside
pub last_off : (side : Side) (area : Rect) (c : ℤ) → IsLast side area → Covers plane_range (square_beside side area c) → ⊥
last_off Above area c last covers = omega (arith, ints)
last_off Right area c last covers = omega (arith, ints)
last_off Below area c last covers = omega (arith, ints)
last_off Left area c last covers = omega (arith, ints)

-- beside this side of the tile there are squares, one of them in this row or column, to which a walk goes
pub record HasBeside (side : Side) (tiles : Tiles) (id : ℕ) (c : ℤ) : Type 0 where
  pub partition : IsPartition tiles
  pub stitches : HasStitches tiles
  pub taken : IsTaken tiles id
  pub line : HasLine side (tile_at tiles id).area c
  pub inside : GoesOn side (tile_at tiles id).area

-- the row or column comes later on the way, or is the same
abbrev pub IsNoFurther : Side → ℤ → ℤ → Type 0
IsNoFurther Above x at = x ≤ℤ at
IsNoFurther Right y at = y ≤ℤ at
IsNoFurther Below x at = at ≤ℤ x
IsNoFurther Left y at = at ≤ℤ y

-- the row or column after the way along an area
abbrev after_of : Side → Rect → ℤ
after_of Above area = area.xlo -ℤ pos 1
after_of Right area = area.ylo -ℤ pos 1
after_of Below area = area.xhi
after_of Left area = area.yhi

-- how far it is to a row or a column
abbrev pub way_to : Side → Rect → ℤ → ℕ
way_to Above area x = extent x area.xlo
way_to Right area y = extent y area.ylo
way_to Below area x = extent area.xhi (x +ℤ pos 1)
way_to Left area y = extent area.yhi (y +ℤ pos 1)

-- the tile has a square beside the side of the first tile, and the walk has not gone past the row or column
pub record IsWalk (side : Side) (tiles : Tiles) (id next : ℕ) (c : ℤ) : Type 0 where
  pub at : ℤ
  pub owns : Owns tiles next (square_beside side (tile_at tiles id).area at)
  pub line : HasLine side (tile_at tiles id).area at
  pub ahead : IsNoFurther side c at

-- an area with a row or a column c
module _ (area : Rect) (c : ℤ) where
  first_line : (side : Side) → HasLine side area c → HasLine side area (first_of side area)
  first_line Above line = (omega (arith, ints), omega (arith, ints))
  first_line Right line = (omega (arith, ints), omega (arith, ints))
  first_line Below line = (omega (arith, ints), omega (arith, ints))
  first_line Left line = (omega (arith, ints), omega (arith, ints))

  first_ahead : (side : Side) → HasLine side area c → IsNoFurther side c (first_of side area)
  first_ahead Above line = omega (arith, ints)
  first_ahead Right line = omega (arith, ints)
  first_ahead Below line = omega (arith, ints)
  first_ahead Left line = omega (arith, ints)

  pub beside_covers : (side : Side) → IsProper area → LiesWithin area plane_range → HasLine side area c → GoesOn side area → Covers plane_range (square_beside side area c)
  beside_covers Above proper within line inside = omega (arith, ints)
  beside_covers Right proper within line inside = omega (arith, ints)
  beside_covers Below proper within line inside = omega (arith, ints)
  beside_covers Left proper within line inside = omega (arith, ints)

  after_ahead : (next : Rect) (side : Side) → IsShort side next c → IsNoFurther side c (after_of side next)
  after_ahead next Above short = omega (arith, ints)
  after_ahead next Right short = omega (arith, ints)
  after_ahead next Below short = omega (arith, ints)
  after_ahead next Left short = omega (arith, ints)

  -- a tile beside it, where a walk is
  module _ (next : Rect) (at : ℤ) where
    after_line : (side : Side) → HasLine side area c → HasLine side area at → Covers next (square_beside side area at) → IsShort side next c
        → HasLine side area (after_of side next)
    after_line Above line way covers short = (omega (arith, ints), omega (arith, ints))
    after_line Right line way covers short = (omega (arith, ints), omega (arith, ints))
    after_line Below line way covers short = (omega (arith, ints), omega (arith, ints))
    after_line Left line way covers short = (omega (arith, ints), omega (arith, ints))

    after_goes_on : (side : Side) → LiesWithin area plane_range → HasLine side area c → HasLine side area at → Covers next (square_beside side area at)
        → IsShort side next c → GoesOn (along side) next
    after_goes_on Above within line way covers short = omega (arith, ints)
    after_goes_on Right within line way covers short = omega (arith, ints)
    after_goes_on Below within line way covers short = omega (arith, ints)
    after_goes_on Left within line way covers short = omega (arith, ints)

    come : (side : Side) → Covers next (square_beside side area at) → IsNoFurther side c at → (IsShort side next c → ⊥)
        → Covers next (square_beside side area c)
    come Above covers ahead long = by_lt_z c next.xlo (λ p. absurd (long p)) (λ p. omega (arith, ints))
    come Right covers ahead long = by_lt_z c next.ylo (λ p. absurd (long p)) (λ p. omega (arith, ints))
    come Below covers ahead long = by_lt_z c next.xhi (λ p. omega (arith, ints)) (λ p. absurd (long p))
    come Left covers ahead long = by_lt_z c next.yhi (λ p. omega (arith, ints)) (λ p. absurd (long p))

pub first_square : (side : Side) (tile : Tile) → square_of side tile ≡ square_beside side tile.area (first_of side tile.area)
first_square Above tile = refl
first_square Right tile = refl
first_square Below tile = refl
first_square Left tile = refl

way_falls : (side : Side) (area next after : Rect) (c : ℤ) → Covers after (square_beside side area (after_of side next)) → IsShort side next c
    → way_to side after c < way_to side next c
way_falls Above area next after c covers short = extent_falls_down c after.xlo next.xlo (omega (arith, ints)) short
way_falls Right area next after c covers short = extent_falls_down c after.ylo next.ylo (omega (arith, ints)) short
way_falls Below area next after c covers short = extent_falls next.xhi after.xhi (c +ℤ pos 1) (omega (arith, ints)) (omega (arith, ints))
way_falls Left area next after c covers short = extent_falls next.yhi after.yhi (c +ℤ pos 1) (omega (arith, ints)) (omega (arith, ints))

-- the square that the stitch of a tile on the way leads to is beside the first tile
module _ {tiles : Tiles} {id : ℕ} where
  after_square : (side : Side) (next : ℕ) (at : ℤ) → IsPartition tiles → IsTaken tiles id → HasLine side (tile_at tiles id).area at
      → Owns tiles next (square_beside side (tile_at tiles id).area at)
      → square_of (along side) (tile_at tiles next) ≡ square_beside side (tile_at tiles id).area (after_of side (tile_at tiles next).area)
  after_square Above next at partition taken line owns = ap (square_at ((tile_at tiles next).area.xlo -ℤ pos 1)) (beside_above tiles id next at partition taken line.0 line.1 owns)
  after_square Right next at partition taken line owns = ap (λ (x : ℤ). square_at x ((tile_at tiles next).area.ylo -ℤ pos 1)) (beside_right tiles id next at partition taken line.0 line.1 owns)
  after_square Below next at partition taken line owns = ap (λ (y : ℤ). square_at (tile_at tiles next).area.xhi (y -ℤ pos 1)) (beside_below tiles id next at partition taken line.0 line.1 owns)
  after_square Left next at partition taken line owns = ap (λ (x : ℤ). square_at (x -ℤ pos 1) (tile_at tiles next).area.yhi) (beside_left tiles id next at partition taken line.0 line.1 owns)

module _ {side : Side} {tiles : Tiles} {id : ℕ} {c : ℤ} (line : HasBeside side tiles id c) where
  pub walk_begins : IsWalk side tiles id (stitch_of side (tile_at tiles id)) c
  walk_begins = record {
    at = first_of side (tile_at tiles id).area;
    owns = subst (Owns tiles (stitch_of side (tile_at tiles id))) (first_square side (tile_at tiles id))
        (next_beside tiles id line.partition line.stitches line.taken side line.inside);
    line = first_line _ _ side line.line;
    ahead = first_ahead _ _ side line.line;
  }

  pub walk_inside : Covers plane_range (square_beside side (tile_at tiles id).area c)
  walk_inside = beside_covers _ _ side line.taken.proper (line.partition.within id line.taken) line.line line.inside

  module _ {next : ℕ} (way : IsWalk side tiles id next c) where
    pub walk_ends : (IsShort side (tile_at tiles next).area c → ⊥) → Owns tiles next (square_beside side (tile_at tiles id).area c)
    walk_ends long = record { covers = come _ _ _ _ side way.owns.covers way.ahead long }

    module _ (short : IsShort side (tile_at tiles next).area c) where
      walk_next : Owns tiles (stitch_of (along side) (tile_at tiles next)) (square_beside side (tile_at tiles id).area (after_of side (tile_at tiles next).area))
      walk_next = subst (Owns tiles (stitch_of (along side) (tile_at tiles next))) (after_square side next way.at line.partition line.taken way.line way.owns)
          (next_beside tiles next line.partition line.stitches (owner_taken tiles next _ way.owns) (along side)
          (after_goes_on _ _ _ _ side (line.partition.within id line.taken) line.line way.line way.owns.covers short))

      pub walk_goes_on : IsWalk side tiles id (stitch_of (along side) (tile_at tiles next)) c
      walk_goes_on = record {
        at = after_of side (tile_at tiles next).area;
        owns = walk_next;
        line = after_line _ _ _ _ side line.line way.line way.owns.covers short;
        ahead = after_ahead (tile_at tiles id).area _ _ side short;
      }

      pub walk_nearer : way_to side (tile_at tiles (stitch_of (along side) (tile_at tiles next))).area c < way_to side (tile_at tiles next).area c
      walk_nearer = way_falls side _ _ _ c walk_next.covers short
