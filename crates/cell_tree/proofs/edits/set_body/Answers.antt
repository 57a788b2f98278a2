use Rattle.cell_tree.proofs.Common.{[], ◌<◌, length, get_or, refl, ap, subst, ℕ, List, UseBody, CellState, with_use_set}
use Rattle.cell_tree.proofs.CellLaws.{cell_at-states, write_states, write_kept}
use Rattle.cell_tree.proofs.edits.set_body.Goals as goal

pub set-requires : goal.set-requires
set-requires c = subst (λ (cell : CellState). c.args.k < length cell.uses)
    (cell_at-states c.args.cells.now c.args.cell c.index-cells-cell.result c.requires.within) c.requires.use_within

pub returns-clause-states : goal.returns-clause-states
returns-clause-states c =
    write_states c.args.cells.now c.args.cell c.index-cells-cell.result c.requires.within _ (λ cell. with_use_set cell c.args.k c.args.used)
    (ap (λ (uses : List (List ℕ × UseBody)). record { own = (get_or c.args.cells.now c.args.cell c.index-cells-cell.result).own; uses = uses }) c.set.ensures)

pub returns-clause-users : goal.returns-clause-users
returns-clause-users c = write_kept c.args.cells.now c.args.cell c.index-cells-cell.result c.requires.within (λ cell. cell.users.keys) [] _ refl
