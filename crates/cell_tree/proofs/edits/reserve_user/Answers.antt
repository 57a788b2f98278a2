use Rattle.cell_tree.proofs.Common.{[], ◌<◌, refl, sym, subst, arith, on_ok_weaker, spare}
use Rattle.cell_tree.proofs.CellLaws.{write_same, write_kept, write_here}
use Rattle.cell_tree.proofs.edits.reserve_user.Goals as goal

pub returns-clause-room : goal.returns-clause-room
returns-clause-room c =
    on_ok_weaker c.reserve.result (λ some. subst (λ n. 0 < n)
    (sym (write_here c.args.cells.now c.args.child c.index-cells-child.result c.requires (λ cell. spare cell.users) 0 _)) (omega (arith, some)))
    c.reserve.ensures.ok

pub returns-clause-uses_room : goal.returns-clause-uses_room
returns-clause-uses_room c = write_kept c.args.cells.now c.args.child c.index-cells-child.result c.requires (λ cell. cell.uses.spare) 0 _ refl

pub returns-clause-states : goal.returns-clause-states
returns-clause-states c = write_same c.args.cells.now c.args.child c.index-cells-child.result c.requires _ refl

pub returns-clause-users : goal.returns-clause-users
returns-clause-users c = write_kept c.args.cells.now c.args.child c.index-cells-child.result c.requires (λ cell. cell.users.keys) [] _ c.reserve.ensures.keys
