use Rattle.hier_merge.proofs.Common.{◌≡◌, ◌+◌, ℕ, suc, subst, arith, ArePiecesFrom}
use Rattle.hier_merge.proofs.PlanePieceLaws.{pieces_more}
use Rattle.hier_merge.proofs.meetings.pieces_of.Goals as goal

pub loop-plane-init : goal.loop-plane-init
loop-plane-init c = (c.new.ensures.items, c.new-2.ensures.items)

pub loop-plane-preserved : goal.loop-plane-preserved
loop-plane-preserved c =
    let plane = c.loop-plane.plane in
    let next : suc plane ≡ plane + 1 = omega arith in
    let after = c.add_plane.new.pieces in
    subst (λ (count : ℕ). ArePiecesFrom c.args.tech.now c.args.tiles.now 0 count after.stacks.items after.offending.items) next
    (pieces_more c.args.tech.now c.args.tiles.now plane c.loop-plane.pieces after c.loop-plane.invariant c.in_ok-add_plane.ensures)
