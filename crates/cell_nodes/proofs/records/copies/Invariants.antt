use Rattle.cell_nodes.proofs.Common.{◌≡◌, take}
use Rattle.cell_nodes.proofs.records.copies.Given as goal

abbrev pub invariant-loop-name : goal.invariant-loop-name
invariant-loop-name l = l.copies.items ≡ take l.name-index l.names
