use Rattle.tile_arena.proofs.Common.{◌%◌, [], slice_get, refl, sym, ap, ◌∙◌, length-set, arith, BLOCK_SIZE}
use Rattle.tile_arena.proofs.ListLaws.{item_place, read_item, written}
use Rattle.tile_arena.proofs.block_lists.BlockList.get_mut.Goals as goal

pub index_mut-requires : goal.index_mut-requires
index_mut-requires g c =
    let inside = item_place _ _ c.args.at [] c.self.invariant.0 (rw (← c.self.view_is) at c.requires) in
    omega (arith, inside.1)

pub get_mut-requires : goal.get_mut-requires
get_mut-requires g c =
    let inside = item_place _ _ c.args.at c.index_mut.result.now c.self.invariant.0 (rw (← c.self.view_is) at c.requires) in
    rw c.index_mut.ensures.value inside.2

pub invariant_of-self-lent : goal.invariant_of-self-lent
invariant_of-self-lent g c w =
    let inside = item_place _ _ c.args.at [] c.self.invariant.0 (rw (← c.self.view_is) at c.requires) in
    ((written _ _ c.args.at _ w c.self.invariant.0 inside.0 c.index_mut.ensures.value).1, rw length-set c.self.invariant.1)

pub returns : goal.returns
returns g c =
    let inside = item_place _ _ c.args.at c.index_mut.result.now c.self.invariant.0 (rw (← c.self.view_is) at c.requires) in (
      (refl, λ w. rw (← c.self.view_is, length-set, (written _ _ c.args.at _ w c.self.invariant.0 inside.0 c.index_mut.ensures.value).0) refl),
      record {
        writes_back = tt;
        value = rw (← c.self.view_is) (read_item _ _ c.args.at c.index_mut.result.now c.get_mut.result.now c.self.invariant.0 inside.0
            (sym (ap (λ b. slice_get b (c.args.at % BLOCK_SIZE)) c.index_mut.ensures.value) ∙ c.get_mut.ensures.value));
      },
    )
