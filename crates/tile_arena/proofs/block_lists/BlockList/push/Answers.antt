use Rattle.tile_arena.proofs.Common.{[], length, ap, ◌∙◌, length-set, arith}
use Rattle.tile_arena.proofs.ListLaws.{length-items_of, push_place, pushed}
use Rattle.tile_arena.proofs.block_lists.BlockList.push.Goals as goal

pub index_mut-requires : goal.index_mut-requires
index_mut-requires g c =
    let room = rw (← c.self.view_is) at c.requires in
    let same = length-items_of _ _ c.self.invariant.0 in
    let place = push_place _ _ [] c.self.invariant.0 (omega arith) in
    omega (arith, place.0)

pub push-requires : goal.push-requires
push-requires g c =
    let room = rw (← c.self.view_is) at c.requires in
    let same = length-items_of _ _ c.self.invariant.0 in
    let place = push_place _ _ c.index_mut.result.now c.self.invariant.0 (omega arith) in
    omega (arith, ap length c.index_mut.ensures.value ∙ place.1)

pub overflow_add-self : goal.overflow_add-self
overflow_add-self g c =
    let room = rw (← c.self.view_is) at c.requires in
    let same = length-items_of _ _ c.self.invariant.0 in
    record { fits = omega (arith, c.self.invariant.1) }

pub invariant_of-self : goal.invariant_of-self
invariant_of-self g c =
    let room = rw (← c.self.view_is) at c.requires in
    let same = length-items_of _ _ c.self.invariant.0 in
    let after = pushed _ _ _ _ c.args.item c.self.invariant.0 (omega arith) c.index_mut.ensures.value c.push.ensures in
    (after.1, rw length-set c.self.invariant.1)

pub returns-clause-items : goal.returns-clause-items
returns-clause-items g c =
    let room = rw (← c.self.view_is) at c.requires in
    let same = length-items_of _ _ c.self.invariant.0 in
    rw (← c.self.view_is) (pushed _ _ _ _ c.args.item c.self.invariant.0 (omega arith) c.index_mut.ensures.value c.push.ensures).0
