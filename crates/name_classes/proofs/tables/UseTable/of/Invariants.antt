use Rattle.name_classes.proofs.Common.{take, IsTableOf}
use Rattle.name_classes.proofs.tables.UseTable.of.Given as goal

abbrev pub invariant-loop-number : goal.invariant-loop-number
invariant-loop-number l = IsTableOf (take l.number l.uses) (record { numbers = l.numbers })
