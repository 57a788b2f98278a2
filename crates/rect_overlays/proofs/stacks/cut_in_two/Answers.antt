use Rattle.std.proofs.lemmas.Result.{on_ok_weaker}
use Rattle.rect_overlays.proofs.Common.{Region}
use Rattle.rect_overlays.proofs.Held.{halves_are_added}
use Rattle.rect_overlays.proofs.stacks.cut_in_two.Goals as goal

pub returns : goal.returns
returns c =
    let region : Region = record { area = c.args.area.now; members = c.args.members.now } in
    let halves = c.gather.new.halves in
    on_ok_weaker c.push-2.result (λ second.
    halves_are_added c.args.rects.now region c.args.cut.now halves.low halves.high c.args.regions.now c.push.new.self c.push-2.new.self
    c.in_ok-gather.ensures.low c.in_ok-gather.ensures.high c.in_ok-push.ensures second)
    c.push-2.ensures
