use Rattle.partition.proofs.Numbering.{Numbered}
use Rattle.partition.proofs.forest.number_classes.Given as goal

abbrev pub invariant-loop-number : goal.invariant-loop-number
invariant-loop-number l = Numbered l.initial.labels l.labels l.number l.count
