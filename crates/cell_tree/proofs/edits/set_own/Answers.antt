use Rattle.cell_tree.proofs.Common.{[], refl, with_own}
use Rattle.cell_tree.proofs.CellLaws.{write_states, write_kept}
use Rattle.cell_tree.proofs.edits.set_own.Goals as goal

pub returns-clause-states : goal.returns-clause-states
returns-clause-states c = write_states c.args.cells.now c.args.cell c.index-cells-cell.result c.requires _ (λ cell. with_own cell c.args.own) refl

pub returns-clause-users : goal.returns-clause-users
returns-clause-users c = write_kept c.args.cells.now c.args.cell c.index-cells-cell.result c.requires (λ cell. cell.users.keys) [] _ refl
