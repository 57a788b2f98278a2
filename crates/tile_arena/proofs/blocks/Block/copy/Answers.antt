use Rattle.tile_arena.proofs.Common.{◌++◌, ◌∷◌, [], ap, ◌∙◌}
use Rattle.tile_arena.proofs.BlockLaws.{take_next}
use Rattle.tile_arena.proofs.blocks.Block.copy.Goals as goal

pub loop-at-preserved : goal.loop-at-preserved
loop-at-preserved g c =
    c.push.ensures ∙ (ap (λ items. items ++ c.get.result.now ∷ []) c.loop-at.invariant
    ∙ take_next c.args.self.now c.loop-at.at c.get.result.now c.get.ensures)
