use Rattle.sim_networks.proofs.Common.{sym, ◌∙◌, stands_nowhere}
use Rattle.sim_networks.proofs.NumberLaws.{found_number, label_read}
use Rattle.sim_networks.proofs.nodes.NodeTable.node.Goals as goal

pub returns-in_err-number : goal.returns-in_err-number
returns-in_err-number c =
    rw c.from_residual.ensures (λ here.
    stands_nowhere c.args.self.now.names.index c.args.name.now (sym c.find.ensures ∙ c.in_err-number.was) here)

pub returns : goal.returns
returns c =
    let table = c.args.self.now in
    let number = c.in_ok-number.number in
    let at = found_number table.names.index c.args.name.now number (sym c.find.ensures ∙ c.in_ok-number.was) in
    label_read table.names.index table.labels.items c.args.name.now number c.index.result.now c.requires.table.one_label at c.index.ensures
