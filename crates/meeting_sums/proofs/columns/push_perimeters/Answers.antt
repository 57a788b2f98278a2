use Rattle.meeting_sums.proofs.Common.{◌≡◌, to_z, of_z, ◌∙◌, arith, w64, ints, perimeter_of, class_of}
use Rattle.meeting_sums.proofs.StackLaws.{read_proper, read_near, perimeter_not_negative, piece_adds}
use Rattle.meeting_sums.proofs.columns.push_perimeters.Goals as goal

pub perimeter_of-perimeter-requires-clause-proper : goal.perimeter_of-perimeter-requires-clause-proper
perimeter_of-perimeter-requires-clause-proper c =
    read_proper c.args.stacks.now c.loop-place.place c.index-stacks-place.result c.loop-place-test.true c.index-stacks-place.is c.requires.spread

pub perimeter_of-perimeter-requires-clause-near : goal.perimeter_of-perimeter-requires-clause-near
perimeter_of-perimeter-requires-clause-near c =
    read_near c.args.stacks.now c.loop-place.place c.index-stacks-place.result c.loop-place-test.true c.index-stacks-place.is c.requires.spread

pub push_stack-requires : goal.push_stack-requires
push_stack-requires c =
    let proper = read_proper c.args.stacks.now c.loop-place.place c.index-stacks-place.result c.loop-place-test.true c.index-stacks-place.is
    c.requires.spread in
    let here : to_z w64 (of_z w64 c.perimeter_of-perimeter.result) ≡ c.perimeter_of-perimeter.result = omega (arith, ints, c.perimeter_of-perimeter.type_inv) in
    rw (here, c.perimeter_of-perimeter.ensures) (perimeter_not_negative c.index-stacks-place.result.stack.area proper)

pub loop-place-preserved : goal.loop-place-preserved
loop-place-preserved c =
    let here : to_z w64 (of_z w64 c.perimeter_of-perimeter.result) ≡ c.perimeter_of-perimeter.result = omega (arith, ints, c.perimeter_of-perimeter.type_inv) in
    let inside = c.loop-place-test.true in
    let one_each = c.requires.one_each in
    piece_adds perimeter_of (class_of c.args.class.now).contains c.args.stacks.now c.args.groups.now c.loop-place.place c.index-stacks-place.result
    (to_z w64 (of_z w64 c.perimeter_of-perimeter.result)) c.args.amounts.now.items c.loop-place.amounts.items c.push_stack.new.amounts.items inside
    (omega (arith, inside, one_each)) c.index-stacks-place.is (here ∙ c.perimeter_of-perimeter.ensures) c.loop-place.invariant c.in_ok-push_stack.ensures
