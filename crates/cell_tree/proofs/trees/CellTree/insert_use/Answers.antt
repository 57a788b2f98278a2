use Rattle.cell_tree.proofs.Common.{◌<◌, ◌≤◌, length, refl, sym, subst, ◌∙◌, ℕ, List, with_items, with_items_is, TreeCell, Passed, Size, HasIdAt}
use Rattle.cell_tree.proofs.Common.{CellState, states, Tree, cell_at, with_inserted, IsEdited, IsReady, AreLawful, tree_of}
use Rattle.cell_tree.specs.Trees.{RefusesInsertion}
use Rattle.cell_tree.proofs.WholeLaws.{is_inside, whole_lawful, would_pass}
use Rattle.cell_tree.proofs.TreeLaws.{run_refused, run_changed, run_edited}
use Rattle.cell_tree.proofs.StateLaws.{IsReserved, MayInsert, reserved, whole_same, inserted_lawful, child_inserted}
use Rattle.cell_tree.proofs.trees.CellTree.insert_use.Goals as goal
use Rattle.cell_tree.proofs.trees.CellTree.insert_use.Goals.{After-reserve_use}

-- the tree where room was made
room : (c : After-reserve_use) → IsReserved (with_items c.self.inside.cells c.reserve_use.new.cells).items c.self.inside.book c.args.self.now
room c =
    reserved c.self.invariant c.self.view_is c.as_mut_slice.ensures.value c.reserve_use.ensures.states c.reserve_use.ensures.users
    (with_items_is c.self.inside.cells c.reserve_use.new.cells (c.reserve_use.auto.cells ∙ c.as_mut_slice.ensures.len))

may : (c : After-reserve_use)
    → MayInsert (tree_of (with_items c.self.inside.cells c.reserve_use.new.cells).items c.self.inside.book) c.args.cell c.args.at c.args.id.items c.args.used
may c =
    subst (λ (t : Tree). MayInsert t c.args.cell c.args.at c.args.id.items c.args.used) (sym (room c).view)
    (record {
      within = c.requires.within;
      place = c.requires.place;
      new = c.requires.new;
      lawful = c.requires.lawful;
      child = c.requires.child;
      free = c.requires.free;
      few = c.requires.few;
    })

inside : (c : After-reserve_use) → c.args.cell < length (with_items c.self.inside.cells c.reserve_use.new.cells).items
inside c = is_inside (room c).whole (room c).view c.args.cell c.requires.within

pub invariant_of-self : goal.invariant_of-self
invariant_of-self c = (room (goal.at.invariant_of-self c).After-reserve_use).whole

pub size_with_placed-size-requires-clause-lawful : goal.size_with_placed-size-requires-clause-lawful
size_with_placed-size-requires-clause-lawful c =
    subst (λ (sizes : List Size). AreLawful c.as_slice-cells.result.now sizes) (sym c.as_slice.ensures.value)
    (subst (λ (cells : List TreeCell). AreLawful cells c.self.inside.book.sizes.items) (sym c.as_slice-cells.ensures.value)
    (whole_lawful (room (goal.at.size_with_placed-size-requires-clause-lawful c).After-reserve_use).whole))

pub grow-requires-clause-lawful : goal.grow-requires-clause-lawful
grow-requires-clause-lawful c =
    subst (λ (cells : List TreeCell). AreLawful cells c.self.inside.book.sizes.items) (sym c.as_slice-cells.ensures.value)
    (whole_lawful (room (goal.at.grow-requires-clause-lawful c).After-reserve_use).whole)

pub invariant_of-self-in-Err : goal.invariant_of-self-in-Err
invariant_of-self-in-Err c =
    whole_same _ (room (goal.at.invariant_of-self-in-Err c).After-reserve_use).whole refl (λ key. refl) c.in-Err.ensures.same
    (subst (λ (cells : List TreeCell). IsReady c.grow.new.self (length cells)) c.as_slice-cells.ensures.value c.grow.ensures.ready)

pub returns-in-Err-clause-refused : goal.returns-in-Err-clause-refused
returns-in-Err-clause-refused c =
    let here = (goal.at.returns-in-Err-clause-refused c).After-reserve_use in
    subst (λ (t : Tree). RefusesInsertion t c.args.cell c.args.at c.args.id.items c.args.used (Passed c.in-Err.dimension)) (room here).view
    (would_pass (room here).whole (inside here) (inserted_lawful (room here).whole c.args.cell (inside here) c.args.at c.args.id.items c.args.used (may here))
    c.in-Err.dimension
    (run_refused (room here).whole (λ (cell : CellState). with_inserted cell c.args.at c.args.id.items c.args.used) c.args.cell
    c.as_slice-cells.ensures.value c.as_slice.ensures.value (c.size_with_placed-size.ensures c.args.at c.args.id.items) c.in-Err.dimension
    c.in-Err.ensures.refused))

pub add_use-requires-clause-place : goal.add_use-requires-clause-place
add_use-requires-clause-place c =
    subst (λ (cells : List TreeCell). c.args.at ≤ length (cell_at (states cells) c.args.cell).uses) (sym c.as_mut_slice-2.ensures.value)
    (may (goal.at.add_use-requires-clause-place c).After-reserve_use).place

pub add_use-requires-clause-new : goal.add_use-requires-clause-new
add_use-requires-clause-new c =
    subst (λ (cells : List TreeCell). (k : ℕ) → HasIdAt (cell_at (states cells) c.args.cell).uses k c.args.id.items → ⊥) (sym c.as_mut_slice-2.ensures.value)
    (may (goal.at.add_use-requires-clause-new c).After-reserve_use).new

pub invariant_of-self-2 : goal.invariant_of-self-2
invariant_of-self-2 c =
    let here = (goal.at.invariant_of-self-2 c).After-reserve_use in
    run_changed (room here).whole (λ (cell : CellState). with_inserted cell c.args.at c.args.id.items c.args.used) c.args.cell
    c.as_slice-cells.ensures.value c.as_slice.ensures.value (c.size_with_placed-size.ensures c.args.at c.args.id.items) c.in-Ok.ensures.booked
    c.as_mut_slice-2.ensures.value c.add_use.ensures.states
    (with_items_is (with_items c.self.inside.cells c.reserve_use.new.cells) c.add_use.new.cells (c.add_use.auto.cells ∙ c.as_mut_slice-2.ensures.len))
    c.in-Ok.ensures.limits c.grow.ensures.ready (inside here)
    (inserted_lawful (room here).whole c.args.cell (inside here) c.args.at c.args.id.items c.args.used (may here)) c.args.used.child.0
    c.add_use.ensures.users
    (child_inserted (cell_at (states (with_items c.self.inside.cells c.reserve_use.new.cells).items) c.args.cell).uses c.args.at
    (c.args.id.items, c.args.used))

pub returns-clause-edited : goal.returns-clause-edited
returns-clause-edited c =
    let here = (goal.at.returns-clause-edited c).After-reserve_use in
    subst (λ (t : Tree). IsEdited t (tree_of (with_items (with_items c.self.inside.cells c.reserve_use.new.cells) c.add_use.new.cells).items c.grow.new.self)
    c.args.cell (with_inserted (cell_at t.cells c.args.cell) c.args.at c.args.id.items c.args.used)) (room here).view
    (run_edited (room here).whole (λ (cell : CellState). with_inserted cell c.args.at c.args.id.items c.args.used) c.args.cell
    c.as_slice-cells.ensures.value c.as_slice.ensures.value (c.size_with_placed-size.ensures c.args.at c.args.id.items) c.in-Ok.ensures.booked
    c.as_mut_slice-2.ensures.value c.add_use.ensures.states
    (with_items_is (with_items c.self.inside.cells c.reserve_use.new.cells) c.add_use.new.cells (c.add_use.auto.cells ∙ c.as_mut_slice-2.ensures.len)))
