use Rattle.cell_tree.proofs.Common.{◌<◌, length, ap, subst, ◌∙◌, arith, with_items, with_items_is, same_Some, Passed, UseBody, IsLawfulUse}
use Rattle.cell_tree.proofs.Common.{CellState, states, Tree, cell_at, with_use_set, with_moved, IsEdited, RefusesMove, tree_of}
use Rattle.cell_tree.proofs.WholeLaws.{is_inside}
use Rattle.cell_tree.proofs.TreeLaws.{run_refused, run_kept, run_edited}
use Rattle.cell_tree.proofs.StateLaws.{IsMove, moved_lawful, moved_child, moved_children, moved_is, moved_refused, move_of}
use Rattle.cell_tree.proofs.trees.CellTree.set_use.Goals as goal
use Rattle.cell_tree.proofs.trees.CellTree.set_use.Goals.{After-body}

inside : (c : After-body) → c.args.cell < length c.self.inside.cells.items
inside c = is_inside c.self.invariant c.self.view_is c.args.cell c.requires.within

abbrev set : (c : After-body) → CellState → CellState
set c cell = with_use_set cell c.args.k (record { child = c.body.result.now.child; placed = c.args.placed; grid = c.args.grid })

move : (c : After-body)
    → IsMove (states c.self.inside.cells.items) c.args.cell c.args.k (record { child = c.body.result.now.child; placed = c.args.placed; grid = c.args.grid })
move c =
    move_of c.self.inside.cells.items c.args.cell c.args.k c.args.placed c.args.grid (inside c) c.index.ensures c.body.ensures c.requires.dx c.requires.dy
    c.requires.grid

pub size_with_use-size-requires-clause-body : goal.size_with_use-size-requires-clause-body
size_with_use-size-requires-clause-body c body is =
    let here = (goal.at.size_with_use-size-requires-clause-body c).After-body in
    subst (λ (u : UseBody). IsLawfulUse u × (u.child.0 < length c.as_slice-cells.result.now)) (same_Some _ body is) (
      (move here).lawful,
      omega (arith, moved_child c.self.invariant c.args.cell (inside here) c.args.k _ (move here), ap length c.as_slice-cells.ensures.value),
    )

pub returns-in-Err-clause-refused : goal.returns-in-Err-clause-refused
returns-in-Err-clause-refused c =
    let here = (goal.at.returns-in-Err-clause-refused c).After-body in
    subst (λ (t : Tree). RefusesMove t c.args.cell c.args.k c.args.placed c.args.grid (Passed c.in-Err.dimension)) c.self.view_is
    (moved_refused c.self.invariant c.args.cell (inside here) c.args.k _ (move here) c.in-Err.dimension
    (run_refused c.self.invariant (set here) c.args.cell
    c.as_slice-cells.ensures.value c.as_slice.ensures.value c.size_with_use-size.ensures c.in-Err.dimension c.in-Err.ensures.refused))

pub invariant_of-self-2 : goal.invariant_of-self-2
invariant_of-self-2 c =
    let here = (goal.at.invariant_of-self-2 c).After-body in
    run_kept c.self.invariant (set here) c.args.cell
    c.as_slice-cells.ensures.value c.as_slice.ensures.value c.size_with_use-size.ensures c.in-Ok.ensures.booked c.as_mut_slice.ensures.value
    c.set_body.ensures.states
    (with_items_is c.self.inside.cells c.set_body.new.cells (c.set_body.auto.cells ∙ c.as_mut_slice.ensures.len)) c.in-Ok.ensures.limits
    c.grow.ensures.ready (inside here)
    (moved_lawful c.self.invariant c.args.cell (inside here) c.args.k _ (move here)) c.set_body.ensures.users
    (moved_children c.self.invariant c.args.cell (inside here) c.args.k _ (move here))

pub returns-clause-edited : goal.returns-clause-edited
returns-clause-edited c =
    let here = (goal.at.returns-clause-edited c).After-body in
    subst (λ (t : Tree). IsEdited t (tree_of (with_items c.self.inside.cells c.set_body.new.cells).items c.grow.new.self) c.args.cell
    (with_moved (cell_at t.cells c.args.cell) c.args.k c.args.placed c.args.grid)) c.self.view_is
    (subst (IsEdited (tree_of c.self.inside.cells.items c.self.inside.book)
    (tree_of (with_items c.self.inside.cells c.set_body.new.cells).items c.grow.new.self) c.args.cell)
    (moved_is c.self.invariant c.args.cell (inside here) c.args.k _ (move here))
    (run_edited c.self.invariant (set here) c.args.cell
    c.as_slice-cells.ensures.value c.as_slice.ensures.value c.size_with_use-size.ensures c.in-Ok.ensures.booked c.as_mut_slice.ensures.value
    c.set_body.ensures.states (with_items_is c.self.inside.cells c.set_body.new.cells (c.set_body.auto.cells ∙ c.as_mut_slice.ensures.len))))
