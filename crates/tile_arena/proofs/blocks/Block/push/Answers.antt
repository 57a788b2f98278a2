use Rattle.tile_arena.proofs.Common.{sym, arith}
use Rattle.tile_arena.proofs.BlockLaws.{length-held, next_is_empty, item_pushed}
use Rattle.tile_arena.proofs.blocks.Block.push.Goals as goal

pub write-requires : goal.write-requires
write-requires g c =
    let room = rw (← c.self.view_is) at c.requires in
    let long = length-held c.self.inside c.self.invariant in
    let counted = c.self.invariant.counted in
    (sym c.self.invariant.here, omega arith, next_is_empty c.self.inside c.self.invariant)

pub invariant_of-self : goal.invariant_of-self
invariant_of-self g c =
    (item_pushed c.self.inside c.self.invariant c.args.item c.write.new.self (rw (← c.self.view_is) at c.requires) c.write.ensures.0 c.write.ensures.1).0

pub returns : goal.returns
returns g c =
    rw (← c.self.view_is)
    (item_pushed c.self.inside c.self.invariant c.args.item c.write.new.self (rw (← c.self.view_is) at c.requires) c.write.ensures.0 c.write.ensures.1).1
