use Rattle.cell_tree.proofs.Common.{[], ◌<◌, ◌≤◌, length, get_or, refl, ap, sym, subst, ℕ, List, spare, HasIdAt, UseBody, CellState, with_inserted}
use Rattle.cell_tree.proofs.CellLaws.{cell_at-states, write_states, write_kept, read_here}
use Rattle.cell_tree.proofs.edits.insert_body.Goals as goal

pub insert-requires-clause-place : goal.insert-requires-clause-place
insert-requires-clause-place c =
    subst (λ (cell : CellState). c.args.at ≤ length cell.uses) (cell_at-states c.args.cells.now c.args.cell c.index-cells-cell.result c.requires.within)
    c.requires.place

pub insert-requires-clause-room : goal.insert-requires-clause-room
insert-requires-clause-room c = subst (λ n. 0 < n)
    (read_here c.args.cells.now c.args.cell c.index-cells-cell.result c.requires.within (λ cell. cell.uses.spare) 0) c.requires.room

pub insert-requires-clause-new : goal.insert-requires-clause-new
insert-requires-clause-new c k has =
    c.requires.new k (subst (λ (cell : CellState). HasIdAt cell.uses k c.args.id.items)
    (sym (cell_at-states c.args.cells.now c.args.cell c.index-cells-cell.result c.requires.within)) has)

pub returns-clause-states : goal.returns-clause-states
returns-clause-states c =
    write_states c.args.cells.now c.args.cell c.index-cells-cell.result c.requires.within _ (λ cell. with_inserted cell c.args.at c.args.id.items c.args.used)
    (ap (λ (uses : List (List ℕ × UseBody)). record { own = (get_or c.args.cells.now c.args.cell c.index-cells-cell.result).own; uses = uses })
    c.insert.ensures)

pub returns-clause-users : goal.returns-clause-users
returns-clause-users c = write_kept c.args.cells.now c.args.cell c.index-cells-cell.result c.requires.within (λ cell. cell.users.keys) [] _ refl

pub returns-clause-users_room : goal.returns-clause-users_room
returns-clause-users_room c = write_kept c.args.cells.now c.args.cell c.index-cells-cell.result c.requires.within (λ cell. spare cell.users) 0 _ refl
