use Rattle.names.proofs.Common.{◌∙◌}
use Rattle.names.proofs.BlockLaws.{within_more}
use Rattle.names.proofs.blocks.block_of.Goals as goal

pub loop-index-preserved : goal.loop-index-preserved
loop-index-preserved c = record {
  ends = c.with-block.ensures.ends ∙ c.loop-index.invariant.ends;
  within = within_more c.args.tiles.now c.args.start c.loop-index.index c.loop-index.block c.with-block.result c.with-block.ensures
      c.loop-index.invariant.within;
}
