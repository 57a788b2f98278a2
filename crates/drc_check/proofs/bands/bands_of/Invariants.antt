use Rattle.drc_check.proofs.Common.{◌≤ℤ◌, ◌-ℤ◌, pos, unsigned_abs, AreBandsBelow}
use Rattle.drc_check.proofs.bands.bands_of.Given as goal

-- the bands so far have all squares of the hull below this row
abbrev pub invariant-loop-low : goal.invariant-loop-low
invariant-loop-low l = record {
  some : pos 1 ≤ℤ l.rows;
  few : l.rows ≤ℤ pos 134217728;
  from : l.hull.ylo ≤ℤ l.low;
  to : l.low ≤ℤ l.hull.yhi;
  bands : AreBandsBelow l.hull l.low l.bands.items;
}

abbrev pub decreases-loop-low : goal.decreases-loop-low
decreases-loop-low l = unsigned_abs (l.hull.yhi -ℤ l.low)
