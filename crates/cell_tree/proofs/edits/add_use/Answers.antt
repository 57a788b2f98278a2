use Rattle.cell_tree.proofs.Common.{◌<◌, length, ap, sym, subst, ◌∙◌, arith, length-set, same_Some, slice_get-set_same, HasChild, CellState, states}
use Rattle.cell_tree.proofs.Common.{cell_at, with_inserted}
use Rattle.std.specs.Prelude.{slice_get}
use Rattle.cell_tree.proofs.FindLaws.{length-states}
use Rattle.cell_tree.proofs.WholeLaws.{cell_is}
use Rattle.cell_tree.proofs.UserLaws.{added_users}
use Rattle.cell_tree.proofs.StateLaws.{new_child}
use Rattle.cell_tree.proofs.edits.add_use.Goals as goal

pub returns-clause-users : goal.returns-clause-users
returns-clause-users c =
    let inside : c.args.cell < length (states c.args.cells.now) = omega (arith, c.requires.within, length-states c.args.cells.now) in
    let new = with_inserted (cell_at (states c.args.cells.now) c.args.cell) c.args.at c.args.id.items c.args.used in
    let are = c.push_user.ensures.states ∙ c.insert_body.ensures.states in
    let within : c.args.cell < length (states c.push_user.new.cells) =
    omega (arith, inside, ap length are, length-set (states c.args.cells.now) c.args.cell new) in
    let now = same_Some _ _ (sym (slice_get-set_same (states c.args.cells.now) c.args.cell new inside) ∙ sym (ap (λ s. slice_get s c.args.cell) are)
    ∙ cell_is (states c.push_user.new.cells) c.args.cell within) in
    added_users c.args.cells.now c.insert_body.new.cells c.push_user.new.cells c.args.cell c.args.used.child.0 c.insert_body.ensures.users
    c.push_user.ensures.others
    c.push_user.ensures.users
    (subst (λ (cell : CellState). HasChild cell.uses c.args.used.child.0) now
    (new_child (cell_at (states c.args.cells.now) c.args.cell).uses c.args.at (c.args.id.items, c.args.used)))
