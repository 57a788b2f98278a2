use Rattle.cell_library.proofs.Common.{sym, subst, Hull, IsHullInRange}
use Rattle.cell_library.proofs.use_trees.box_of.Goals as goal

pub hull_below-requires-clause-near : goal.hull_below-requires-clause-near
hull_below-requires-clause-near c =
    subst IsHullInRange (sym c.hull.ensures) (c.requires.lawful.sizes.within Hull c.args.used.now.child.0)
