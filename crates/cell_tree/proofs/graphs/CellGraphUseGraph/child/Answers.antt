use Rattle.cell_tree.proofs.Common.{slice_index, sym, ap, ◌∙◌, arith, get_or, List, ℕ, states}
use Rattle.cell_tree.proofs.FindLaws.{length-states}
use Rattle.cell_tree.proofs.GraphLaws.{length-children_of, used_by-read, cell_count-graph, child-read}
use Rattle.cell_tree.proofs.graphs.CellGraphUseGraph.child.Goals as goal

pub body-requires : goal.body-requires
body-requires c =
    omega (
      arith,
      c.requires.place,
      cell_count-graph c.args.self.now.cells.now c.args.cell c.index-self-cell.result
          (omega (arith, c.requires.cell, length-children_of (states c.args.self.now.cells.now), length-states c.args.self.now.cells.now)),
    )

pub returns : goal.returns
returns c =
    child-read (get_or c.args.self.now.cells.now c.args.cell c.index-self-cell.result).uses.entries c.args.place c.body.result.now c.body.ensures
    ∙ sym (ap (λ (list : List ℕ). slice_index list c.args.place) (used_by-read c.args.self.now.cells.now c.args.cell c.index-self-cell.result
    (omega (arith, c.requires.cell, length-children_of (states c.args.self.now.cells.now), length-states c.args.self.now.cells.now))))
