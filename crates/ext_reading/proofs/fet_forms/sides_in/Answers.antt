use Rattle.ext_reading.proofs.LineSteps.{side_step}
use Rattle.ext_reading.proofs.fet_forms.sides_in.Goals as goal

pub loop-node-preserved : goal.loop-node-preserved
loop-node-preserved c =
    side_step c.loop-node.sides.items c.put.new.items.items c.args.words c.loop-node.rest c.next.new.self c.next-in-Some.new.self c.next-in-Some-2.new.self
    c.in-Some.node.now c.in-Some-next.length.now c.in-Some-next-2.field-0.now c.in_ok-side.side c.loop-node.invariant c.in-Some.ensures.steps
    c.in-Some-next.ensures.steps c.in-Some-next-2.ensures.steps c.in_ok-side.ensures.read c.in_ok-put.ensures
