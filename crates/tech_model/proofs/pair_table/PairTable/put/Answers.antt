use Rattle.tech_model.proofs.Common.{arith}
use Rattle.tech_model.proofs.PairTableLaws.{row_has-set}
use Rattle.tech_model.proofs.pair_table.PairTable.put.Goals as goal

pub returns : goal.returns
returns c = λ x y below.
    let row = c.index-row.ensures in
    row_has-set c.args.self.now.rows.items c.from-2.result c.index-row.result.now c.args.s.0 c.args.t.0 x y c.from-2.ensures (cc) (omega arith)
    (omega arith) (omega arith)
