use Rattle.cell_library.proofs.Common.{ℕ, sym, subst, arith, inl, inr, All, MayCome, new_states}
use Rattle.cell_library.proofs.ArrivingCells.{all_count}
use Rattle.cell_library.proofs.AddedCells.{crossing_within}
use Rattle.cell_library.proofs.additions.add_to_tree.Goals as goal

pub add_all-requires-clause-cells : goal.add_all-requires-clause-cells
add_all-requires-clause-cells c =
    let many = c.requires.so_many in
    let states = new_states c.in_ok-cells.cells.items in
    subst (λ (n : ℕ). All (MayCome n) states)
    (sym (all_count c.args.contents.now c.args.all_uses.now c.args.tree.now.cells states c.args.first c.requires.first (omega arith)
    c.in_ok-cells.ensures.states)) c.in_ok-cells.ensures.lawful

pub fault_of-requires : goal.fault_of-requires
fault_of-requires c = λ key is.
    let many = c.requires.so_many in
    let states = new_states c.in_ok-cells.cells.items in
    let count = all_count c.args.contents.now c.args.all_uses.now c.args.tree.now.cells states c.args.first c.requires.first
    (omega arith) c.in_ok-cells.ensures.states in
    let within = crossing_within c.args.tree.now states c.in-Err.refused c.in-Err.ensures.refused key is in
    omega arith

pub returns-in-Err-clause-fault : goal.returns-in-Err-clause-fault
returns-in-Err-clause-fault c =
    let many = c.requires.so_many in
    let states = new_states c.in_ok-cells.cells.items in
    let count = all_count c.args.contents.now c.args.all_uses.now c.args.tree.now.cells states c.args.first c.requires.first
    (omega arith) c.in_ok-cells.ensures.states in
    elim c.fault_of.ensures [
      | inl memory ↦ inl memory
      | inr same ↦ inr (record {
        states = states;
        are = c.in_ok-cells.ensures.states;
        may = subst (λ (n : ℕ). All (MayCome n) states) (sym count) c.in_ok-cells.ensures.lawful;
        fault = c.in-Err.refused;
        refuses = c.in-Err.ensures.refused;
        told_is = same;
      })
    ]
