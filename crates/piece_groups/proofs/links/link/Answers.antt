use Rattle.piece_groups.proofs.Common.{arith}
use Rattle.piece_groups.proofs.LinkLaws.{linked_before}
use Rattle.piece_groups.proofs.links.link.Goals as goal

pub loop-place-preserved : goal.loop-place-preserved
loop-place-preserved c = linked_before c.args.members.items c.args.marks c.loop-place.place c.index.result.now c.loop-place.firsts.items
    c.loop-place.nexts.items c.index-in-loop-place.result.now (omega arith) (omega arith) c.requires c.index.ensures
    c.index-in-loop-place.ensures c.loop-place.invariant
