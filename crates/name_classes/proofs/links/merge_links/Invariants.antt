use Rattle.name_classes.proofs.Common.{take, AreMergeLinks}
use Rattle.name_classes.proofs.links.merge_links.Given as goal

abbrev pub invariant-loop-merge : goal.invariant-loop-merge
invariant-loop-merge l = AreMergeLinks l.resolver.names.now l.number (take l.merge-index l.merge-items) l.links.items
