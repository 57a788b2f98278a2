use Rattle.name_classes.proofs.Common.{take}
use Rattle.name_classes.proofs.LinkLaws.{Grown}
use Rattle.name_classes.proofs.links.NodeLinks.add_node.Given as goal

abbrev pub invariant-loop-alias : goal.invariant-loop-alias
invariant-loop-alias l = Grown l.resolver.names.now l.number l.node (take l.alias-index l.alias-items) l.initial.self l.self l.global
