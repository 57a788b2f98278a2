use Rattle.std.proofs.Common.{ℕ, ◌<◌, get_or}
use Rattle.geo_core.specs.declared.squares.Rect.{Rect}
use Rattle.geo_core.specs.Covering.{IsProper}
use Rattle.geo_core.specs.Areas.{IsNear}
use Rattle.geometry_tests.proofs.areas.are_sound.Given as goal

abbrev pub invariant-loop-area : goal.invariant-loop-area
invariant-loop-area l = record {
  proper : (k : ℕ) (d : Rect) → k < l.area-index → IsProper (get_or l.rects k d);
  near : (k : ℕ) (d : Rect) → k < l.area-index → IsNear (get_or l.rects k d);
}
