use Rattle.flatten.proofs.Common.{map, take, element_at, GivesFets}
use Rattle.flatten.proofs.fets.give_fets.Given as goal

abbrev pub invariant-loop-at : goal.invariant-loop-at
invariant-loop-at g l =
    GivesFets g.S.FetSink.has l.nodes (map (λ fet. (element_at l.names l.element, fet)) (take l.at l.fets)) l.fn.sink l.sink
