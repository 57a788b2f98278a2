use Rattle.steady_state.proofs.Common.{◌∙◌, false, inl, inr, slice_index_or, cases_Bool, network_in}
use Rattle.steady_state.proofs.Collecting.{none_marked, reached_inside}
use Rattle.steady_state.proofs.stepping.step_seeds.Goals as goal

pub mark_seeds-requires-clause-marks : goal.mark_seeds-requires-clause-marks
mark_seeds-requires-clause-marks c =
    none_marked (network_in c.args.net.now) c.clear-2.new.self (c.clear-2.ensures.fits ∙ c.requires.marks) c.clear-2.ensures.empty

pub returns-clause-steady : goal.returns-clause-steady
returns-clause-steady c = λ v reached.
    let here = c.step_vicinities.ensures in
    here.steady v (reached_inside (network_in c.args.net.now) c.args.state.now c.args.nodes.now c.step_vicinities.new.marks.inside here.closed.left
    here.closed.right (λ u is st. here.grown u (c.mark_seeds.ensures.seeds u is st)) v reached)

pub returns-clause-kept : goal.returns-clause-kept
returns-clause-kept c = λ v out.
    let here = c.step_vicinities.ensures in
    here.kept v (elim (cases_Bool (slice_index_or c.step_vicinities.new.marks.inside v false)) [
      | inl ins ↦ absurd (out (here.reached c.args.nodes.now (c.mark_seeds.ensures.reached c.args.state.now) v ins))
      | inr off ↦ off
    ])
