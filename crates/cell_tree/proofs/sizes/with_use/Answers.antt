use Rattle.cell_tree.proofs.Common.{arith, Depth, Elements, Hull}
use Rattle.cell_tree.proofs.sizes.with_use.Goals as goal

pub add_use-deep-requires-clause-within : goal.add_use-deep-requires-clause-within
add_use-deep-requires-clause-within c = c.requires.within Depth

pub add_use-deep-requires-clause-few : goal.add_use-deep-requires-clause-few
add_use-deep-requires-clause-few c = omega (arith, c.requires.size_within Elements)

pub add_use-deep-requires-clause-flat : goal.add_use-deep-requires-clause-flat
add_use-deep-requires-clause-flat c = omega (arith, c.requires.size_within Depth)

pub add_use-many-requires-clause-within : goal.add_use-many-requires-clause-within
add_use-many-requires-clause-within c = c.requires.within Elements

pub add_use-many-requires-clause-few : goal.add_use-many-requires-clause-few
add_use-many-requires-clause-few c = omega (arith, c.requires.size_within Elements, c.add_use-deep.ensures.few)

pub add_use-requires-clause-few : goal.add_use-requires-clause-few
add_use-requires-clause-few c = omega (arith, c.requires.size_within Elements, c.add_use-deep.ensures.few, c.add_use-many.ensures.few)

pub add_use-requires-clause-within : goal.add_use-requires-clause-within
add_use-requires-clause-within c = c.requires.within Hull
