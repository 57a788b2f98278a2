use Rattle.cell_tree.proofs.Common.{◌<◌, length, ap, sym, subst, ◌∙◌, arith, ℕ, List, TreeCell, UseBody, HasIdAt, CellState, states, Tree, cell_at}
use Rattle.std.specs.Prelude.{IfNone}
use Rattle.cell_tree.proofs.CellLaws.{cell_at-states}
use Rattle.cell_tree.proofs.FindLaws.{length-states}
use Rattle.cell_tree.proofs.trees.CellTree.find_use.Goals as goal

pub returns-clause-absent : goal.returns-clause-absent
returns-clause-absent c =
    let within : c.args.cell < length (states c.self.inside.cells.items) = subst (λ (t : Tree). c.args.cell < length t.cells) (sym c.self.view_is) c.requires in
    let inside : c.args.cell < length c.self.inside.cells.items = omega (arith, within, length-states c.self.inside.cells.items) in
    subst (λ (uses : List (List ℕ × UseBody)). IfNone c.find.result ((k : ℕ) → HasIdAt uses k c.args.id.now → ⊥))
    (ap (λ (t : TreeCell). t.uses.entries) c.index.ensures
    ∙ sym (ap (λ (cell : CellState). cell.uses) (cell_at-states c.self.inside.cells.items c.args.cell c.index.result.now inside))
    ∙ ap (λ (t : Tree). (cell_at t.cells c.args.cell).uses) c.self.view_is)
    c.find.ensures.absent
