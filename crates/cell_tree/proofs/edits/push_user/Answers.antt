use Rattle.cell_tree.proofs.Common.{[], ◌<◌, refl, ap, sym, subst, ◌∙◌, nat_eq, spare, insert_key}
use Rattle.cell_tree.proofs.TableLaws.{on_ok}
use Rattle.cell_tree.proofs.CellLaws.{write_same, write_others, write_here, read_here}
use Rattle.cell_tree.proofs.edits.push_user.Goals as goal

pub returns-clause-states : goal.returns-clause-states
returns-clause-states c = write_same c.args.cells.now c.args.child c.index-cells-child.result c.requires.within _ refl

pub returns-clause-others : goal.returns-clause-others
returns-clause-others c = write_others c.args.cells.now c.args.child c.index-cells-child.result c.requires.within (λ cell. cell.users.keys) [] _

pub returns-clause-users : goal.returns-clause-users
returns-clause-users c =
    let room = c.insert.ensures.succeeds (subst (λ n. 0 < n)
    (read_here c.args.cells.now c.args.child c.index-cells-child.result c.requires.within (λ cell. spare cell.users) 0) c.requires.room) in
    write_here c.args.cells.now c.args.child c.index-cells-child.result c.requires.within (λ cell. cell.users.keys) [] _
    ∙ on_ok c.insert.result _ room c.insert.ensures.keys
    ∙ sym (ap (λ keys. insert_key nat_eq keys c.args.cell)
    (read_here c.args.cells.now c.args.child c.index-cells-child.result c.requires.within (λ cell. cell.users.keys) []))
