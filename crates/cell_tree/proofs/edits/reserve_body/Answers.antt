use Rattle.cell_tree.proofs.Common.{[], ◌<◌, get_or, refl, ap, sym, subst, ℕ, List, on_ok_weaker, UseBody}
use Rattle.cell_tree.proofs.CellLaws.{write_same, write_kept, write_here}
use Rattle.cell_tree.proofs.edits.reserve_body.Goals as goal

pub returns-clause-room : goal.returns-clause-room
returns-clause-room c =
    on_ok_weaker c.reserve.result (λ some. subst (λ n. 0 < n)
    (sym (write_here c.args.cells.now c.args.cell c.index-cells-cell.result c.requires (λ cell. cell.uses.spare) 0 _)) some) c.reserve.ensures.room

pub returns-clause-states : goal.returns-clause-states
returns-clause-states c = write_same c.args.cells.now c.args.cell c.index-cells-cell.result c.requires _
    (ap (λ (uses : List (List ℕ × UseBody)). record { own = (get_or c.args.cells.now c.args.cell c.index-cells-cell.result).own; uses = uses })
    c.reserve.ensures.kept)

pub returns-clause-users : goal.returns-clause-users
returns-clause-users c = write_kept c.args.cells.now c.args.cell c.index-cells-cell.result c.requires (λ cell. cell.users.keys) [] _ refl
