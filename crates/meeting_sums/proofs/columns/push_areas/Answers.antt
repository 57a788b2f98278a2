use Rattle.meeting_sums.proofs.Common.{◌≡◌, to_z, of_z, ◌∙◌, arith, w64, ints, area_of, class_of}
use Rattle.meeting_sums.proofs.StackLaws.{read_proper, read_near, area_not_negative, piece_adds}
use Rattle.meeting_sums.proofs.columns.push_areas.Goals as goal

pub area_of-area-requires-clause-proper : goal.area_of-area-requires-clause-proper
area_of-area-requires-clause-proper c =
    read_proper c.args.stacks.now c.loop-place.place c.index-stacks-place.result c.loop-place-test.true c.index-stacks-place.is c.requires.spread

pub area_of-area-requires-clause-near : goal.area_of-area-requires-clause-near
area_of-area-requires-clause-near c =
    read_near c.args.stacks.now c.loop-place.place c.index-stacks-place.result c.loop-place-test.true c.index-stacks-place.is c.requires.spread

pub push_stack-requires : goal.push_stack-requires
push_stack-requires c =
    let proper = read_proper c.args.stacks.now c.loop-place.place c.index-stacks-place.result c.loop-place-test.true c.index-stacks-place.is
    c.requires.spread in
    let here : to_z w64 (of_z w64 c.area_of-area.result) ≡ c.area_of-area.result = omega (arith, ints, c.area_of-area.type_inv) in
    rw (here, c.area_of-area.ensures) (area_not_negative c.index-stacks-place.result.stack.area proper)

pub loop-place-preserved : goal.loop-place-preserved
loop-place-preserved c =
    let here : to_z w64 (of_z w64 c.area_of-area.result) ≡ c.area_of-area.result = omega (arith, ints, c.area_of-area.type_inv) in
    let inside = c.loop-place-test.true in
    let one_each = c.requires.one_each in
    piece_adds area_of (class_of c.args.class.now).contains c.args.stacks.now c.args.groups.now c.loop-place.place c.index-stacks-place.result
    (to_z w64 (of_z w64 c.area_of-area.result)) c.args.amounts.now.items c.loop-place.amounts.items c.push_stack.new.amounts.items inside
    (omega (arith, inside, one_each)) c.index-stacks-place.is (here ∙ c.area_of-area.ensures) c.loop-place.invariant c.in_ok-push_stack.ensures
