use Rattle.steady_state.proofs.Common.{ℕ, List, subst, IfSome, IsRestedBut, network_in}
use Rattle.std.proofs.Common.{Option, Bor}
use Rattle.steady_state.proofs.Resting.{all_touched}
use Rattle.steady_state.proofs.settling.mark_first.Goals as goal

pub returns-in-Some-clause-quiet : goal.returns-in-Some-clause-quiet
returns-in-Some-clause-quiet c = λ s but.
    let net = network_in c.args.net.now in
    let nodes = c.in-Some.nodes.now in
    let inside = c.mark_all_touched.new.marks.inside in
    let here : IsRestedBut net s nodes = subst (λ (o : Option (Bor (List ℕ))). IfSome o (λ ns. IsRestedBut net s ns.now)) c.in-Some.is but in
    here inside (all_touched net nodes inside c.mark_all_touched.ensures.touched)
