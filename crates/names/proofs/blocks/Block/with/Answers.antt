use Rattle.names.proofs.BlockLaws.{with_tile}
use Rattle.names.proofs.blocks.Block.with.Goals as goal

pub returns : goal.returns
returns c = rw (c.joined.ensures, c.is_like.ensures) (with_tile c.args.self.now c.args.tile.now)
