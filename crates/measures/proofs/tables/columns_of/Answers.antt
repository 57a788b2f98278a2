use Rattle.measures.proofs.Common.{subst, ClassRec, class_of, IsColumn}
use Rattle.measures.proofs.MeasureLaws.{columns_more}
use Rattle.measures.proofs.tables.columns_of.Goals as goal

pub loop-class-preserved : goal.loop-class-preserved
loop-class-preserved c =
    let column = c.in_ok-measured_in.field-0 in
    columns_more c.args.classes.now c.args.tiles.now c.args.contacts.now c.args.count c.loop-class.class-index c.loop-class.columns.items c.push.new.self.items
    c.class-item.result column c.loop-class-test.true c.loop-class.invariant
    (subst (λ (v : ClassRec). IsColumn (class_of v).contains c.args.tiles.now c.args.contacts.now c.args.count column) c.class-item.is
    c.in_ok-measured_in.ensures)
    c.in_ok-push.ensures.items
