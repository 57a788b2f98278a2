use Rattle.flatten.proofs.Common.{take, fets_of, elements_in, GivesFets}
use Rattle.flatten.proofs.fets.give_flat_fets.Given as goal

abbrev pub invariant-loop-number : goal.invariant-loop-number
invariant-loop-number g l = GivesFets g.S.FetSink.has l.nodes (fets_of (take l.number (elements_in l.names))) l.fn.sink l.sink
