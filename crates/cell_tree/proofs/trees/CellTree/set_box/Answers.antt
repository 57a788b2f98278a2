use Rattle.cell_tree.proofs.Common.{subst, ◌∙◌, with_items_is, Passed, CellState, Tree, with_own, RefusesBox}
use Rattle.cell_tree.proofs.WholeLaws.{is_inside}
use Rattle.cell_tree.proofs.TreeLaws.{own_lawful, own_refused, run_refused, run_kept}
use Rattle.cell_tree.proofs.trees.CellTree.set_box.Goals as goal

pub returns-in-Err-clause-refused : goal.returns-in-Err-clause-refused
returns-in-Err-clause-refused c =
    subst (λ (t : Tree). RefusesBox t c.args.cell c.args.own (Passed c.in-Err.dimension)) c.self.view_is
    (own_refused c.self.invariant c.args.cell (is_inside c.self.invariant c.self.view_is c.args.cell c.requires.within) c.args.own c.requires.lawful
    c.in-Err.dimension
    (run_refused c.self.invariant (λ (cell : CellState). with_own cell c.args.own) c.args.cell c.as_slice-cells.ensures.value c.as_slice.ensures.value
    c.size_with_box-size.ensures c.in-Err.dimension c.in-Err.ensures.refused))

pub invariant_of-self-2 : goal.invariant_of-self-2
invariant_of-self-2 c =
    let inside = is_inside c.self.invariant c.self.view_is c.args.cell c.requires.within in
    run_kept c.self.invariant (λ (cell : CellState). with_own cell c.args.own) c.args.cell c.as_slice-cells.ensures.value c.as_slice.ensures.value
    c.size_with_box-size.ensures c.in-Ok.ensures.booked c.as_mut_slice.ensures.value c.set_own.ensures.states
    (with_items_is c.self.inside.cells c.set_own.new.cells (c.set_own.auto.cells ∙ c.as_mut_slice.ensures.len)) c.in-Ok.ensures.limits
    c.grow.ensures.ready inside
    (own_lawful c.self.invariant c.args.cell inside c.args.own c.requires.lawful) c.set_own.ensures.users (λ key. ((λ has. has), (λ has. has)))
