use Rattle.cell_nodes.specs.steps.NodeNumbers.{AreNumberedUpTo}
use Rattle.cell_nodes.proofs.groups.node_numbers.Given as goal

abbrev pub invariant-loop-number : goal.invariant-loop-number
invariant-loop-number l = AreNumberedUpTo l.nodes l.number l.count l.numbers.items
