use Rattle.cell_tree.proofs.Common.{arith, states}
use Rattle.cell_tree.proofs.TellLaws.{child_within, forgotten_next}
use Rattle.cell_tree.proofs.additions.forget.Goals as goal

pub remove_user-requires : goal.remove_user-requires
remove_user-requires c =
    child_within c.loop-k.cells (states c.args.cells.now) c.args.cell c.loop-k.k c.child_at-child.result c.requires.lawful c.loop-k.invariant.same
    (omega (arith, c.requires.within, c.loop-k.auto.cells)) c.child_at-child.ensures

pub loop-k-preserved : goal.loop-k-preserved
loop-k-preserved c =
    forgotten_next c.args.cells.now c.loop-k.cells c.remove_user.new.cells c.args.cell c.loop-k.k c.child_at-child.result c.loop-k.invariant
    c.child_at-child.ensures c.remove_user.ensures.states c.remove_user.ensures.others c.remove_user.ensures.users
