use Rattle.cell_tree.proofs.Common.{◌≡◌, ℕ, ◌<◌, sym, ap, subst, ◌∙◌, arith, length, List, Some, slice_get, with_items_is, TreeCell, CellState}
use Rattle.cell_tree.proofs.Common.{states, IsUserOf, cell_at, without_use}
use Rattle.cell_tree.proofs.HullLaws.{inside_refl}
use Rattle.cell_tree.proofs.ShrinkLaws.{among_removed}
use Rattle.cell_tree.proofs.WholeLaws.{is_inside}
use Rattle.cell_tree.proofs.TreeLaws.{shrunk_passes, own_upright, run_refused, run_changed}
use Rattle.cell_tree.proofs.StateLaws.{removed_lawful, child_removed, old_child, old_known, stands_at}
use Rattle.cell_tree.proofs.trees.CellTree.delete_use.Goals as goal
use Rattle.cell_tree.proofs.trees.CellTree.delete_use.Goals.{After-body}

inside : (c : After-body) → c.args.cell < length c.self.inside.cells.items
inside c = is_inside c.self.invariant c.self.view_is c.args.cell c.requires.within

found : (c : After-body)
    → (id : List ℕ) × (slice_get (cell_at (states c.self.inside.cells.items) c.args.cell).uses c.args.k ≡ Some (id, c.body.result.now))
found c = stands_at c.self.inside.cells.items c.args.cell c.args.k (inside c) c.index.ensures c.body.ensures

pub unreachable-requires : goal.unreachable-requires
unreachable-requires c =
    let here = (goal.at.unreachable-requires c).After-body in
    shrunk_passes c.self.invariant c.args.cell (inside here) (without_use (cell_at (states c.self.inside.cells.items) c.args.cell) c.args.k) c.in-Err.field-0
    (inside_refl (cell_at (states c.self.inside.cells.items) c.args.cell).own) (own_upright c.self.invariant c.args.cell (inside here))
    (among_removed (cell_at (states c.self.inside.cells.items) c.args.cell).uses c.args.k)
    (run_refused c.self.invariant (λ (cell : CellState). without_use cell c.args.k) c.args.cell c.as_slice-cells.ensures.value c.as_slice.ensures.value
    c.size_with_use-size.ensures c.in-Err.field-0 c.in-Err.ensures.refused)

pub drop_use-requires-clause-child : goal.drop_use-requires-clause-child
drop_use-requires-clause-child c =
    let here = (goal.at.drop_use-requires-clause-child c).After-body in
    omega (
      arith,
      old_child c.self.invariant c.args.cell (inside here) c.args.k ((found here).0, c.body.result.now) (found here).1,
      ap length c.as_mut_slice.ensures.value,
    )

pub drop_use-requires-clause-known : goal.drop_use-requires-clause-known
drop_use-requires-clause-known c =
    let here = (goal.at.drop_use-requires-clause-known c).After-body in
    subst (λ (cs : List TreeCell). IsUserOf cs c.body.result.now.child.0 c.args.cell) (sym c.as_mut_slice.ensures.value)
    (old_known c.self.invariant c.args.cell (inside here) c.args.k ((found here).0, c.body.result.now) (found here).1)

pub invariant_of-self : goal.invariant_of-self
invariant_of-self c =
    let here = (goal.at.invariant_of-self c).After-body in
    run_changed c.self.invariant (λ (cell : CellState). without_use cell c.args.k) c.args.cell c.as_slice-cells.ensures.value c.as_slice.ensures.value
    c.size_with_use-size.ensures c.in-Ok.ensures.booked c.as_mut_slice.ensures.value c.drop_use.ensures.states
    (with_items_is c.self.inside.cells c.drop_use.new.cells (c.drop_use.auto.cells ∙ c.as_mut_slice.ensures.len)) c.in-Ok.ensures.limits
    c.grow.ensures.ready (inside here)
    (removed_lawful c.self.invariant c.args.cell (inside here) c.args.k) c.body.result.now.child.0 c.drop_use.ensures.users
    (child_removed (cell_at (states c.self.inside.cells.items) c.args.cell).uses c.args.k (found here).0 c.body.result.now (found here).1)
