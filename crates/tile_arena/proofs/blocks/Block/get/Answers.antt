use Rattle.tile_arena.proofs.Common.{sym, ◌∙◌}
use Rattle.tile_arena.proofs.BlockLaws.{has_item, held_is_item}
use Rattle.tile_arena.proofs.blocks.Block.get.Goals as goal

pub get-requires : goal.get-requires
get-requires g c = (sym c.self.invariant.here, has_item c.self.inside c.self.invariant c.args.at (rw (← c.self.view_is) at c.requires))

pub returns : goal.returns
returns g c = rw (← c.self.view_is) (sym (held_is_item c.self.inside c.self.invariant c.args.at) ∙ c.get.ensures)
