use Rattle.sim_records.proofs.Common.{◌++◌, ◌∷◌, [], List, ◌+ℤ◌, take, ap, ◌∙◌, TermRec, SimFet, switch_between, switches_from}
use Rattle.sim_records.proofs.Additions.{add_image}
use Rattle.sim_records.proofs.switches.add_from.Goals as goal

pub loop-drain-preserved : goal.loop-drain-preserved
loop-drain-preserved c =
    let fet = c.args.fet.now in
    let source = c.args.source.now in
    let drain = c.drain-item.result in
    record {
      items =
          c.in_ok-push.ensures.added
          ∙ ap (λ (items : List SimFet). items ++ c.in_ok-pair_switch.field-0 ∷ []) c.loop-drain.invariant.items
          ∙ ap (λ (switch : SimFet). (c.args.switches.now.items ++ switches_from fet source
          (take c.loop-drain.drain-index c.args.others.now)) ++ switch ∷ []) c.in_ok-pair_switch.ensures
          ∙ add_image (λ (drain : TermRec). switch_between fet source drain
          (source.length +ℤ drain.length)) c.args.switches.now.items c.args.others.now c.loop-drain.drain-index drain
          c.loop-drain-test.true c.drain-item.is;
      few = c.in_ok-push.ensures.few;
    }
