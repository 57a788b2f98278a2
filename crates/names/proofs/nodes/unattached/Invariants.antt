use Rattle.names.proofs.Common.{AreTextsOf}
use Rattle.names.proofs.TextLists.{IsLeftBelow}
use Rattle.names.proofs.nodes.unattached.Given as goal

abbrev pub invariant-loop-index : goal.invariant-loop-index
invariant-loop-index l = AreTextsOf l.labels (IsLeftBelow l.named l.index) l.texts.items
