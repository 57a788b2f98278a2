use Rattle.cell_library.proofs.library.Library.hull.Goals as goal

pub returns : goal.returns
returns c =
    rw (← c.self.view_is) (record {
      states = c.self.inside.tree.cells;
      are_states = c.self.invariant.boxes;
      sizes = c.self.inside.tree.sizes;
      are_sizes = c.self.invariant.tree.sizes.right;
      is = c.hull.ensures;
    })
