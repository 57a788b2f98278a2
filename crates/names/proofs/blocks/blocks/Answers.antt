use Rattle.names.proofs.BlockLaws.{blocks_more}
use Rattle.names.proofs.blocks.blocks.Goals as goal

pub loop-start-preserved : goal.loop-start-preserved
loop-start-preserved c = blocks_more c.args.tiles.now c.loop-start.start c.loop-start.blocks.items c.push.new.self.items c.block_of.result
    c.loop-start.invariant
    c.block_of.ensures c.in_ok-push.ensures.items
