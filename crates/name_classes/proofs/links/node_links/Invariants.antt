use Rattle.name_classes.proofs.Common.{take, AreNodeLinks}
use Rattle.name_classes.proofs.links.node_links.Given as goal

abbrev pub invariant-loop-node : goal.invariant-loop-node
invariant-loop-node l = AreNodeLinks l.resolver.names.now l.number (take l.node-index l.node-items) l.links
