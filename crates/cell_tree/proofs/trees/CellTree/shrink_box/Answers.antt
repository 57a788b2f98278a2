use Rattle.cell_tree.proofs.Common.{sym, subst, ◌∙◌, with_items_is, IsInside, CellState, states, Tree, cell_at, with_own}
use Rattle.cell_tree.proofs.ShrinkLaws.{among_all}
use Rattle.cell_tree.proofs.WholeLaws.{is_inside}
use Rattle.cell_tree.proofs.TreeLaws.{own_lawful, shrunk_passes, upright_of, run_refused, run_kept}
use Rattle.cell_tree.proofs.trees.CellTree.shrink_box.Goals as goal

pub unreachable-requires : goal.unreachable-requires
unreachable-requires c =
    shrunk_passes c.self.invariant c.args.cell (is_inside c.self.invariant c.self.view_is c.args.cell c.requires.within)
    (with_own (cell_at (states c.self.inside.cells.items) c.args.cell) c.args.own) c.in-Err.field-0
    (subst (λ (t : Tree). IsInside c.args.own (cell_at t.cells c.args.cell).own) (sym c.self.view_is) c.requires.inside)
    (upright_of c.args.own c.requires.lawful) (among_all (cell_at (states c.self.inside.cells.items) c.args.cell).uses)
    (run_refused c.self.invariant (λ (cell : CellState). with_own cell c.args.own) c.args.cell c.as_slice-cells.ensures.value c.as_slice.ensures.value
    c.size_with_box-size.ensures c.in-Err.field-0 c.in-Err.ensures.refused)

pub invariant_of-self : goal.invariant_of-self
invariant_of-self c =
    let inside = is_inside c.self.invariant c.self.view_is c.args.cell c.requires.within in
    run_kept c.self.invariant (λ (cell : CellState). with_own cell c.args.own) c.args.cell c.as_slice-cells.ensures.value c.as_slice.ensures.value
    c.size_with_box-size.ensures c.in-Ok.ensures.booked c.as_mut_slice.ensures.value c.set_own.ensures.states
    (with_items_is c.self.inside.cells c.set_own.new.cells (c.set_own.auto.cells ∙ c.as_mut_slice.ensures.len)) c.in-Ok.ensures.limits
    c.grow.ensures.ready inside
    (own_lawful c.self.invariant c.args.cell inside c.args.own c.requires.lawful) c.set_own.ensures.users (λ key. ((λ has. has), (λ has. has)))
