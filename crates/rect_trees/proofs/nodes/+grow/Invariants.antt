use Rattle.rect_trees.proofs.Common.{length}
use Rattle.rect_trees.proofs.nodes.+grow.Given as goal

abbrev pub decreases-grow : goal.decreases-grow
decreases-grow l = length l.places.now
