use Rattle.steady_state.proofs.Common.{ℕ, slice_index, IsTouched, network_in}
use Rattle.steady_state.proofs.Moving.{below_one}
use Rattle.steady_state.proofs.Resting.{touched_grown}
use Rattle.steady_state.proofs.changes.mark_all_touched.Goals as goal

pub nodes-preserved : goal.nodes-preserved
nodes-preserved c =
    let net = network_in c.args.net.now in
    let old = c.nodes.marks.inside in
    let new = c.mark_touched.new.marks.inside in
    let here = c.mark_touched.ensures in
    record {
      marks = here.marks;
      touched = below_one (λ (i : ℕ). IsTouched net new (slice_index c.args.nodes.now i)) c.nodes.node-index
          (λ i lt. touched_grown net old new (slice_index c.args.nodes.now i) here.grown (c.nodes.invariant.touched i lt)) here.touched;
    }
