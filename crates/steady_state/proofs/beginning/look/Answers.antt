use Rattle.steady_state.proofs.Common.{◌≡◌, true, is_closed_or_unknown, network_in}
use Rattle.steady_state.proofs.Collecting.{reached_more}
use Rattle.steady_state.proofs.beginning.look.Goals as goal

pub returns-clause-reached : goal.returns-clause-reached
returns-clause-reached c = λ seeds k r.
    let open_now : is_closed_or_unknown c.args.state.now c.args.switch.now ≡ true = cc in
    c.mark.ensures.reached c.args.state.now seeds k (rw c.far-far.ensures (λ st.
    reached_more (network_in c.args.net.now) c.args.state.now seeds c.args.side c.args.switch.now r c.requires.switch.stands open_now st))
