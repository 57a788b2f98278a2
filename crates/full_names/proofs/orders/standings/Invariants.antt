use Rattle.full_names.proofs.OrderLaws.{AreWritten}
use Rattle.full_names.proofs.orders.standings.Given as goal

abbrev pub invariant-loop-number : goal.invariant-loop-number
invariant-loop-number l = AreWritten l.slots l.number l.numbers.items
