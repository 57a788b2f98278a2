use Rattle.cell_tree.proofs.Common.{[], refl, ap, sym, ◌∙◌, nat_eq, if◌then◌else◌, knows}
use Rattle.std.specs.Prelude.{false}
use Rattle.cell_tree.proofs.CellLaws.{write_same, write_others, write_here, read_here}
use Rattle.cell_tree.proofs.edits.remove_user.Goals as goal

pub returns-clause-states : goal.returns-clause-states
returns-clause-states c = write_same c.args.cells.now c.args.child c.index-cells-child.result c.requires _ refl

pub returns-clause-others : goal.returns-clause-others
returns-clause-others c = write_others c.args.cells.now c.args.child c.index-cells-child.result c.requires (λ cell. cell.users.keys) [] _

pub returns-clause-users : goal.returns-clause-users
returns-clause-users c user =
    ap (λ keys. knows keys user) (write_here c.args.cells.now c.args.child c.index-cells-child.result c.requires (λ cell. cell.users.keys) [] _)
    ∙ c.swap_remove.ensures.updates.0 user
    ∙ sym (ap (λ keys. if nat_eq c.args.cell user then false else knows keys user)
    (read_here c.args.cells.now c.args.child c.index-cells-child.result c.requires (λ cell. cell.users.keys) []))
