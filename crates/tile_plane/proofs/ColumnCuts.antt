-- What a step along a column does: with x and y exchanged, what one along a row does.
use Rattle.tile_plane.proofs.Common.{◌≡◌, ℕ, ℤ, ◌≤ℤ◌, ◌<ℤ◌, sym, ◌∙◌, ap, subst, arith, ints, Rect, Tile, Tiles, tile_at, IsTaken, Owns, IsPartition}
use Rattle.tile_plane.proofs.Common.{square_at, IsPartAfter, AreCutAlong, AreCutAlongAt, NothingElseIsCutAlong}
use Rattle.tile_plane.proofs.RowCuts.{AreCutting, IsRowWalk, row_step}
use Rattle.tile_plane.proofs.Transposed.{
  transposed,
  swap_rect,
  tile_at-transposed,
  taken_over,
  taken_back,
  owns_over,
  owns_back,
  partition_over,
  part_over,
  cut_over,
  cut_back,
  nothing_else_over,
  nothing_else_back,
  cut_at_over,
  cut_at_back,
}

-- what holds of the tiles while a column is cut
pub record AreCuttingAlong (area : Rect) (x : ℤ) (old tiles : Tiles) : Type 0 where
  pub cut : AreCutAlong old tiles
  pub nothing_else : NothingElseIsCutAlong area x old tiles

-- as far as y the tiles of the column begin with it, and the tile of this number is the next
pub record IsColumnWalk (tiles : Tiles) (x from to y : ℤ) (id : ℕ) : Type 0 where
  pub taken : IsTaken tiles id
  pub bound : from ≤ℤ y
  pub at : AreCutAlongAt tiles x from y
  pub owns : y <ℤ to → Owns tiles id (square_at x y)

-- the column is done up to the end of the part, yhi
pub record IsColumnStep (area : Rect) (x y : ℤ) (old new : Tiles) (part : ℕ) (yhi : ℤ) : Type 0 where
  pub cutting : AreCuttingAlong area x old new
  pub taken : IsTaken new part
  pub owns : Owns new part (square_at x y)
  pub ahead : y <ℤ yhi
  pub at : AreCutAlongAt new x area.ylo yhi

pub column_step : (area : Rect) (x y : ℤ) (old mid new : Tiles) (id part : ℕ) (yhi : ℤ) → AreCuttingAlong area x old mid
    → IsColumnWalk mid x area.ylo area.yhi y id → y <ℤ area.yhi → IsPartition new → IsPartAfter id part x mid new
    → yhi ≡ (tile_at new part).area.yhi → IsColumnStep area x y old new part yhi
column_step area x y old mid new id part yhi cutting walk more partition split end =
    let before : AreCutting (swap_rect area) x (transposed old) (transposed mid) =
    record { cut = cut_over old mid cutting.cut; nothing_else = nothing_else_over old mid area x cutting.nothing_else } in
    let swapped : IsRowWalk (transposed mid) x area.ylo area.yhi y id = record {
      taken = taken_over mid id walk.taken;
      bound = walk.bound;
      at = cut_at_over mid x area.ylo y walk.at;
      owns = λ less. owns_over mid id (square_at x y) (walk.owns less);
    } in
    let top : yhi ≡ (tile_at (transposed new) part).area.xhi = end ∙ sym (ap (λ (t : Tile). t.area.xhi) (tile_at-transposed new part)) in
    let step = row_step (swap_rect area) x y (transposed old) (transposed mid) (transposed new) id part yhi before swapped more (partition_over new partition)
    (part_over mid new id part x split) top in
    record {
      cutting = record { cut = cut_back old new step.cutting.cut; nothing_else = nothing_else_back old new area x step.cutting.nothing_else };
      taken = taken_back new part step.taken;
      owns = owns_back new part (square_at x y) step.owns;
      ahead = step.ahead;
      at = cut_at_back new x area.ylo yhi step.at;
    }

-- and the walk goes on at the tile above the part
pub column_next : (area : Rect) (x y : ℤ) (old new : Tiles) (part next : ℕ) (yhi : ℤ) → IsColumnStep area x y old new part yhi → area.ylo ≤ℤ y
    → yhi ≡ (tile_at new part).area.yhi → (yhi <ℤ area.yhi → Owns new next (square_at x (tile_at new part).area.yhi)) → IsTaken new next
    → IsColumnWalk new x area.ylo area.yhi yhi next
column_next area x y old new part next yhi step from end owns taken = record {
  taken = taken;
  bound = let ahead = step.ahead in omega (arith, ints);
  at = step.at;
  owns = λ more. subst (λ (v : ℤ). Owns new next (square_at x v)) (sym end) (owns more);
}
