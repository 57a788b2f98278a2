use Rattle.cell_library.proofs.Common.{arith, Elements}
use Rattle.cell_library.proofs.use_trees.behind.Goals as goal

pub overflow_cast-size : goal.overflow_cast-size
overflow_cast-size c = omega (arith, c.elements-size.ensures, c.requires.lawful.sizes.within Elements c.args.used.now.child.0)
