use Rattle.cif_writing.proofs.ElementLaws.{element_there, moved_in_reach}
use Rattle.cif_writing.proofs.writing.element_at.Goals as goal

pub then-requires-clause-inner_move : goal.then-requires-clause-inner_move
then-requires-clause-inner_move c = moved_in_reach c.args.grid.now c.requires.grid c.args.k c.element-dx.result c.element-dx.ensures.nth

pub returns : goal.returns
returns c =
    element_there c.args.grid.now c.requires.grid c.args.k c.element-dx.result c.element-dx.ensures.nth c.args.placed.now c.then.result c.then.ensures.value
