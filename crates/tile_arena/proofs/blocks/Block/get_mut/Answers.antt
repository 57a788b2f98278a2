use Rattle.tile_arena.proofs.Common.{refl, sym, ◌∙◌}
use Rattle.tile_arena.proofs.BlockLaws.{has_item, held_is_item, item_written}
use Rattle.tile_arena.proofs.blocks.Block.get_mut.Goals as goal

pub get_mut-requires : goal.get_mut-requires
get_mut-requires g c = (sym c.self.invariant.here, has_item c.self.inside c.self.invariant c.args.at (rw (← c.self.view_is) at c.requires))

pub invariant_of-self-lent : goal.invariant_of-self-lent
invariant_of-self-lent g c w = (item_written c.self.inside c.self.invariant c.args.at w (rw (← c.self.view_is) at c.requires)).0

pub returns : goal.returns
returns g c =
    let within = rw (← c.self.view_is) at c.requires in (
      (refl, λ w. rw (← c.self.view_is) (item_written c.self.inside c.self.invariant c.args.at w within).1),
      record { writes_back = tt; value = rw (← c.self.view_is) (sym (held_is_item c.self.inside c.self.invariant c.args.at) ∙ c.get_mut.ensures.value) },
    )
