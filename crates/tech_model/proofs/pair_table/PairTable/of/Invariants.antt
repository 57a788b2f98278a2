use Rattle.tech_model.proofs.Common.{take}
use Rattle.tech_model.specs.PairTables.{HasPairs}
use Rattle.tech_model.proofs.pair_table.PairTable.of.Given as goal

abbrev pub invariant-loop-s : goal.invariant-loop-s
invariant-loop-s l = HasPairs l.table.rows.items (take l.s-index l.pairs)
