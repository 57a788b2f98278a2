use Rattle.steady_state.proofs.Common.{◌≡◌, ◌++◌, length, take, drop, ap, ◌∙◌, sym}
use Rattle.switch_net.proofs.Lent.{refilled}
use Rattle.steady_state.proofs.settling.step.Goals as goal

pub returns : goal.returns
returns c =
    let same : length c.step_all.new.next ≡ length c.in_ok-next.next.items = c.step_all.ensures.same_length ∙ sym (ap length c.in_ok-next.ensures.items) in
    let whole : take c.in_ok-next.next.len (c.step_all.new.next ++ drop (length c.step_all.new.next) c.in_ok-next.next.items) ≡ c.step_all.new.next = rw
    (c.in_ok-next.next.ok.0) (refilled c.in_ok-next.next.items c.step_all.new.next same) in
    rw (whole, ← c.items.ensures, ← c.items-2.ensures, ← c.items-3.ensures) c.step_all.ensures
