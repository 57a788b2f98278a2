use Rattle.cell_tree.proofs.Common.{arith, states}
use Rattle.cell_tree.proofs.TellLaws.{child_within, told_next, told_part, told_all, part_kept}
use Rattle.cell_tree.proofs.additions.tell.Goals as goal

pub reserve_user-requires : goal.reserve_user-requires
reserve_user-requires c =
    child_within c.loop-k.cells (states c.args.cells.now) c.args.cell c.loop-k.k c.child_at-child.result c.requires.lawful c.loop-k.invariant.same
    (omega (arith, c.requires.within, c.loop-k.auto.cells)) c.child_at-child.ensures

pub returns-in_err-reserve_user-clause-part : goal.returns-in_err-reserve_user-clause-part
returns-in_err-reserve_user-clause-part c =
    part_kept c.loop-k.cells c.reserve_user.new.cells c.args.cell c.reserve_user.ensures.states c.reserve_user.ensures.users
    (told_part c.args.cells.now c.loop-k.cells c.args.cell c.loop-k.k c.loop-k.invariant c.requires.users)

pub push_user-requires-clause-within : goal.push_user-requires-clause-within
push_user-requires-clause-within c =
    omega (
      arith,
      c.reserve_user.auto.cells,
      child_within c.loop-k.cells (states c.args.cells.now) c.args.cell c.loop-k.k c.child_at-child.result c.requires.lawful c.loop-k.invariant.same
          (omega (arith, c.requires.within, c.loop-k.auto.cells)) c.child_at-child.ensures,
    )

pub loop-k-preserved : goal.loop-k-preserved
loop-k-preserved c =
    told_next c.args.cells.now c.loop-k.cells c.reserve_user.new.cells c.push_user.new.cells c.args.cell c.loop-k.k c.child_at-child.result c.requires.within
    c.loop-k.invariant
    c.child_at-child.ensures c.reserve_user.ensures.states c.reserve_user.ensures.users c.push_user.ensures.states c.push_user.ensures.others
    c.push_user.ensures.users

pub returns-clause-told : goal.returns-clause-told
returns-clause-told c =
    told_all c.args.cells.now c.loop-k.cells c.args.cell c.loop-k.k c.loop-k.invariant c.requires.users
    (omega (arith, c.use_count-k-end.ensures))

pub returns-clause-part : goal.returns-clause-part
returns-clause-part c = told_part c.args.cells.now c.loop-k.cells c.args.cell c.loop-k.k c.loop-k.invariant c.requires.users
