-- A walk along the lowest row of an area, and beside it: how far up its tiles go on.
use Rattle.tile_plane.proofs.Common.{◌≡◌, ℕ, ◌<◌, ℤ, pos, ◌+ℤ◌, ◌-ℤ◌, ◌≤ℤ◌, ◌<ℤ◌, ap, arith, ints, by_lt_z, extent, Rect, IsProper, Tiles, tile_at}
use Rattle.tile_plane.proofs.Common.{IsTaken, Owns, IsPartition, square_at, AreHigh}
use Rattle.tile_plane.proofs.TileLaws.{owner_taken}
use Rattle.tile_plane.proofs.WalkLaws.{extent_falls}
use Rattle.tile_plane.proofs.KeptLaws.{owns_beside}

pub record IsTopWalk (tiles : Tiles) (area : Rect) (id : ℕ) (top : ℤ) : Type 0 where
  pub taken : IsTaken tiles id
  pub from : (tile_at tiles id).area.ylo ≤ℤ area.ylo
  pub to : area.ylo <ℤ (tile_at tiles id).area.yhi
  pub started : area.xlo ≤ℤ (tile_at tiles id).area.xhi
  pub above : area.ylo <ℤ top
  pub within : top ≤ℤ area.yhi
  pub reach : (k : ℕ) (x : ℤ) → (area.xlo -ℤ pos 1) ≤ℤ x → x <ℤ (tile_at tiles id).area.xhi → Owns tiles k (square_at x area.ylo)
      → top ≤ℤ (tile_at tiles k).area.yhi

-- what is asked of a height that is lowered to the end of a tile
pub record IsLowered (end top new : ℤ) : Type 0 where
  pub within : new ≤ℤ top
  pub reach : new ≤ℤ end
  pub above : (y : ℤ) → y <ℤ top → y <ℤ end → y <ℤ new

module _ (tiles : Tiles) (area : Rect) (partition : IsPartition tiles) (proper : IsProper area) where
  -- the walk begins left of the area
  pub top_begins : (id : ℕ) (top : ℤ) → Owns tiles id (square_at (area.xlo -ℤ pos 1) area.ylo) → IsLowered (tile_at tiles id).area.yhi area.yhi top
      → IsTopWalk tiles area id top
  top_begins id top owns low =
      let covers = owns.covers in
      record {
        taken = owner_taken tiles id _ owns;
        from = covers.above_ylo;
        to = covers.below_yhi;
        started = omega (arith, ints);
        above = low.above area.ylo proper.high covers.below_yhi;
        within = low.within;
        reach = λ k x from to had.
            let mine : Owns tiles id (square_at x area.ylo) = owns_beside tiles id (area.xlo -ℤ pos 1) x area.ylo owns (omega (arith, ints)) to in
            let end : (tile_at tiles k).area.yhi ≡ (tile_at tiles id).area.yhi = ap (λ (v : ℕ). (tile_at tiles v).area.yhi) (partition.one k id _ had mine) in
            let reach = low.reach in
            omega (arith, ints);
      }

  module _ (id next : ℕ) (top new : ℤ) (walk : IsTopWalk tiles area id top) (owns : Owns tiles next (square_at (tile_at tiles id).area.xhi area.ylo)) where
    -- and goes on to the tile to the right
    pub top_on : IsLowered (tile_at tiles next).area.yhi top new → IsTopWalk tiles area next new
    top_on low =
        let covers = owns.covers in
        let started = walk.started in
        let within = walk.within in
        let lower = low.within in
        let reach = low.reach in
        record {
          taken = owner_taken tiles next _ owns;
          from = covers.above_ylo;
          to = covers.below_yhi;
          started = omega (arith, ints);
          above = low.above area.ylo walk.above covers.below_yhi;
          within = omega (arith, ints);
          reach = λ k x from to had. by_lt_z x (tile_at tiles id).area.xhi
              (λ less. let before = walk.reach k x from less had in omega (arith, ints))
              (λ more.
              let mine : Owns tiles next (square_at x area.ylo) = owns_beside tiles next (tile_at tiles id).area.xhi x area.ylo owns (omega (arith, ints)) to in
              let end : (tile_at tiles k).area.yhi ≡ (tile_at tiles next).area.yhi =
              ap (λ (v : ℕ). (tile_at tiles v).area.yhi) (partition.one k next _ had mine) in
              omega (arith, ints));
        }

    pub top_nearer : (tile_at tiles id).area.xhi ≤ℤ area.xhi
        → extent (tile_at tiles next).area.xhi (area.xhi +ℤ pos 1) < extent (tile_at tiles id).area.xhi (area.xhi +ℤ pos 1)
    top_nearer more = let covers = owns.covers in
        extent_falls (tile_at tiles id).area.xhi (tile_at tiles next).area.xhi (area.xhi +ℤ pos 1) (omega (arith, ints)) (omega (arith, ints))

  pub top_ends : (id : ℕ) (top : ℤ) → IsTopWalk tiles area id top → area.xhi <ℤ (tile_at tiles id).area.xhi → AreHigh area area.ylo top tiles
  top_ends id top walk past = record { reach = λ k x from to owns. walk.reach k x from (omega (arith, ints)) owns }
