use Rattle.cell_nodes.proofs.Common.{take, AreNumbered}
use Rattle.cell_nodes.proofs.groups.number_regions.Given as goal

abbrev pub invariant-loop-region : goal.invariant-loop-region
invariant-loop-region l = AreNumbered (take l.region-index l.regions) l.number l.initial.numbers l.numbers
