use Rattle.full_names.proofs.Common.{refl, arith}
use Rattle.full_names.proofs.OwnNameLaws.{known_none, known_more, known_all}
use Rattle.full_names.proofs.own_names.all_record_names.Goals as goal

pub loop-cell-init : goal.loop-cell-init
loop-cell-init c = known_none c.args.exts.now c.args.reached.now c.in_ok-records.records.items c.in_ok-records.ensures.items

pub loop-cell-preserved : goal.loop-cell-preserved
loop-cell-preserved c = known_more c.args.exts.now c.args.reached.now c.loop-cell.cell c.index-exts-cell.result _ c.in_ok-names_if_reached.field-0
    c.loop-cell.records.items c.push.new.self.items c.loop-cell-test.true c.index-exts-cell.is refl c.in_ok-names_if_reached.ensures
    c.in_ok-push.ensures.items c.loop-cell.invariant

pub returns : goal.returns
returns c =
    let past = c.loop-cell-test.false in
    let here = c.loop-cell.auto.cell-end in
    known_all c.args.exts.now c.args.reached.now c.loop-cell.cell c.loop-cell.records.items (omega (arith, past, here)) c.loop-cell.invariant
