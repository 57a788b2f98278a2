use Rattle.geo_strips.proofs.Common.{◌≡◌, ◌++◌, drop, map, end_of}
use Rattle.geo_strips.proofs.row_events.add_ends.Given as goal

abbrev pub invariant-loop-bar : goal.invariant-loop-bar
invariant-loop-bar l = l.events.items ++ map end_of (drop l.bar-index l.bars) ≡ l.initial.events.items ++ map end_of l.bars
