use Rattle.geo_strips.proofs.Common.{◌≡◌, ◌++◌, drop, sides_of}
use Rattle.geo_strips.proofs.row_events.all_sides.Given as goal

abbrev pub invariant-loop-event : goal.invariant-loop-event
invariant-loop-event l = l.found.items ++ sides_of (drop l.event-index l.events) ≡ sides_of l.events
