use Rattle.cell_tree.proofs.Common.{[], get_or, refl, ap, ℕ, List, UseBody, without_use}
use Rattle.cell_tree.proofs.CellLaws.{write_states, write_kept}
use Rattle.cell_tree.proofs.edits.remove_body.Goals as goal

pub returns-clause-states : goal.returns-clause-states
returns-clause-states c =
    write_states c.args.cells.now c.args.cell c.index-cells-cell.result c.requires _ (λ cell. without_use cell c.args.k)
    (ap (λ (uses : List (List ℕ × UseBody)). record { own = (get_or c.args.cells.now c.args.cell c.index-cells-cell.result).own; uses = uses })
    c.remove.ensures)

pub returns-clause-users : goal.returns-clause-users
returns-clause-users c = write_kept c.args.cells.now c.args.cell c.index-cells-cell.result c.requires (λ cell. cell.users.keys) [] _ refl
