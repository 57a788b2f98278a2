use Rattle.name_classes.proofs.Common.{◌≡◌, length}
use Rattle.name_classes.proofs.links.no_links.Given as goal

abbrev pub invariant-loop : goal.invariant-loop
invariant-loop l = length l.all.items ≡ l.counter
