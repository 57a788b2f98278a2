use Rattle.name_classes.proofs.SeenLaws.{AreSeen}
use Rattle.name_classes.proofs.links.all_links.Given as goal

abbrev pub invariant-loop-number : goal.invariant-loop-number
invariant-loop-number l = AreSeen l.resolver.names.now l.number l.seen.items l.all.items
