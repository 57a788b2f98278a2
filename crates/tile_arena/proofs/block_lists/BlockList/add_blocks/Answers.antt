use Rattle.tile_arena.proofs.Common.{[], List, replicate, arith, length-append, length-replicate}
use Rattle.tile_arena.proofs.ListLaws.{more_blocks}
use Rattle.tile_arena.proofs.block_lists.BlockList.add_blocks.Goals as goal

pub invariant_of-self-2 : goal.invariant_of-self-2
invariant_of-self-2 g c =
    let room = rw (← c.self.view_is) at c.requires in
    let longer = length-append c.self.inside.blocks.items (replicate c.args.count []) in
    let added = length-replicate {A = List g.row.X.Denot} c.args.count [] in
    rw c.in_ok-add_empty.ensures.ok ((more_blocks c.args.count _ _ c.self.invariant.0).1, omega arith)

pub returns-clause-items : goal.returns-clause-items
returns-clause-items g c = rw (← c.self.view_is, c.in_ok-add_empty.ensures.ok) (more_blocks c.args.count _ _ c.self.invariant.0).0
