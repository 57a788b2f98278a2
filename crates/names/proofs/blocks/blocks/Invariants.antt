use Rattle.names.proofs.BlockLaws.{HasBlocks}
use Rattle.names.proofs.blocks.blocks.Given as goal

abbrev pub invariant-loop-start : goal.invariant-loop-start
invariant-loop-start l = HasBlocks l.tiles l.start l.blocks.items
