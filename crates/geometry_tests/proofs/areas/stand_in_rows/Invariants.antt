use Rattle.std.proofs.Common.{ℕ, suc, ◌<◌, get_or}
use Rattle.geo_core.specs.declared.squares.Rect.{Rect}
use Rattle.geometry_tests.proofs.Rows.{GoesOn}
use Rattle.geometry_tests.proofs.areas.stand_in_rows.Given as goal

abbrev pub invariant-loop-place : goal.invariant-loop-place
invariant-loop-place l = (k : ℕ) (d : Rect) → suc k < l.place → GoesOn (get_or l.rects k d) (get_or l.rects (suc k) d)
