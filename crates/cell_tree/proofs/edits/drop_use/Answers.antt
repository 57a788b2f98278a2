use Rattle.cell_tree.proofs.Common.{ap, subst, ◌∙◌, arith, both_ways, HasChild, CellState, cell_at}
use Rattle.cell_tree.proofs.CellLaws.{cell_at-states}
use Rattle.cell_tree.proofs.UserLaws.{removed_users}
use Rattle.cell_tree.proofs.edits.drop_use.Goals as goal

pub returns-then-not-has_child-clause-users : goal.returns-then-not-has_child-clause-users
returns-then-not-has_child-clause-users c =
    removed_users c.args.cells.now c.remove_body.new.cells c.remove_user.new.cells c.args.cell c.args.child c.remove_body.ensures.users
    c.remove_user.ensures.others c.remove_user.ensures.users
    (λ has. both_ways _ c.if-not-has_child.true (c.has_child.ensures.1
    (subst (λ (cell : CellState). HasChild cell.uses c.args.child)
    (ap (λ s. cell_at s c.args.cell) c.remove_user.ensures.states
    ∙ cell_at-states c.remove_body.new.cells c.args.cell c.index-cells-cell.result (omega (arith, c.requires.within, c.remove_body.auto.cells)))
    has)))
