use Rattle.tile_arena.proofs.Common.{[], ◌%◌, slice_get, ap, sym, ◌∙◌, arith, BLOCK_SIZE}
use Rattle.tile_arena.proofs.ListLaws.{item_place, read_item}
use Rattle.tile_arena.proofs.block_lists.BlockList.get.Goals as goal

pub index-requires : goal.index-requires
index-requires g c =
    let inside = item_place _ _ c.args.at [] c.self.invariant.0 (rw (← c.self.view_is) at c.requires) in
    omega (arith, inside.1)

pub get-requires : goal.get-requires
get-requires g c =
    let inside = item_place _ _ c.args.at c.index.result.now c.self.invariant.0 (rw (← c.self.view_is) at c.requires) in
    rw c.index.ensures inside.2

pub returns : goal.returns
returns g c =
    let inside = item_place _ _ c.args.at c.index.result.now c.self.invariant.0 (rw (← c.self.view_is) at c.requires) in
    rw (← c.self.view_is) (read_item _ _ c.args.at c.index.result.now c.get.result.now c.self.invariant.0 inside.0
    (sym (ap (λ b. slice_get b (c.args.at % BLOCK_SIZE)) c.index.ensures) ∙ c.get.ensures))
