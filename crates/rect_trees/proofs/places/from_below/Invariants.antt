use Rattle.rect_trees.proofs.PlaceLaws.{AreEarly}
use Rattle.rect_trees.proofs.places.from_below.Given as goal

abbrev pub invariant-loop-position : goal.invariant-loop-position
invariant-loop-position l = AreEarly l.rects l.position l.places.items
