use Rattle.name_classes.proofs.Common.{take, AddsJoins}
use Rattle.name_classes.proofs.joining.join_links.Given as goal

abbrev pub invariant-loop-link : goal.invariant-loop-link
invariant-loop-link l = AddsJoins l.names l.number (take l.link-index l.links) l.initial.partition l.partition
