use Rattle.meeting_sums.proofs.Common.{subst, ClassRec, class_of, Column, IsColumn}
use Rattle.meeting_sums.proofs.ColumnLaws.{columns_more}
use Rattle.meeting_sums.proofs.columns.columns_of.Goals as goal

pub loop-class-preserved : goal.loop-class-preserved
loop-class-preserved c =
    let stacks = c.args.stacks.now in
    let contacts = c.args.contacts.now in
    let groups = c.args.groups.now in
    let areas = c.in_ok-areas_in.field-0 in
    let perimeters = c.in_ok-perimeters_in.field-0 in
    let column : Column = record { areas = areas; perimeters = perimeters } in
    let is : IsColumn (class_of c.class-item.result).contains stacks contacts groups c.args.count column = record {
      areas_long = c.in_ok-areas_in.ensures.so_many;
      perimeters_long = c.in_ok-perimeters_in.ensures.so_many;
      area = c.in_ok-areas_in.ensures.each;
      perimeter = c.in_ok-perimeters_in.ensures.each;
    } in
    columns_more c.args.classes.now stacks contacts groups c.args.count c.loop-class.class-index c.loop-class.columns.items c.push.new.self.items
    c.class-item.result column c.loop-class-test.true c.loop-class.invariant
    (subst (λ (v : ClassRec). IsColumn (class_of v).contains stacks contacts groups c.args.count column) c.class-item.is is) c.in_ok-push.ensures.items
