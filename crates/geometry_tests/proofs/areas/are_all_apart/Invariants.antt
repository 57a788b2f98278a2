use Rattle.std.proofs.Common.{ℕ, ◌<◌, get_or}
use Rattle.geo_core.specs.declared.squares.Rect.{Rect}
use Rattle.geo_core.specs.Areas.{AreDisjoint}
use Rattle.geometry_tests.proofs.areas.are_all_apart.Given as goal

abbrev pub invariant-loop-later : goal.invariant-loop-later
invariant-loop-later l = (i j : ℕ) (d : Rect) → i < j → j < l.later → AreDisjoint (get_or l.rects i d) (get_or l.rects j d)

abbrev pub invariant-loop-earlier : goal.invariant-loop-earlier
invariant-loop-earlier l = record {
  before : (i j : ℕ) (d : Rect) → i < j → j < l.later → AreDisjoint (get_or l.rects i d) (get_or l.rects j d);
  here : (i : ℕ) (d : Rect) → i < l.earlier → AreDisjoint (get_or l.rects i d) (get_or l.rects l.later d);
}
