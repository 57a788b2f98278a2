use Rattle.steady_state.proofs.Common.{ℕ, List, Bool, slice_index, slice_index_or, ◌∙◌, IfSome, Network, IsInside, network_in}
use Rattle.std.specs.Prelude.{Option, Some, None}
use Rattle.steady_state.specs.Marked.{AreEndsMarked}
use Rattle.steady_state.proofs.Collecting.{chain_inside, none_marked}
use Rattle.steady_state.proofs.Moving.{ends_grown, gated_grown}
use Rattle.steady_state.proofs.stepping.step_near_nodes.Goals as goal

-- more marks leave the ends of the switches at the held node marked
beside_grown : (net : Network) (inside new : List Bool) (held : Option ℕ) → ((u : ℕ) → IsInside inside u → IsInside new u)
    → IfSome held (AreEndsMarked net inside) → IfSome held (AreEndsMarked net new)
beside_grown net inside new None grown marked = tt
beside_grown net inside new (Some v) grown marked = (
  (λ k d lt e. ends_grown net inside new (slice_index_or net.switches k d) grown (marked.0 k d lt e)),
  (λ k d lt e. ends_grown net inside new (slice_index_or net.switches k d) grown (marked.1 k d lt e)),
)

pub mark_changed-requires-clause-marks : goal.mark_changed-requires-clause-marks
mark_changed-requires-clause-marks c =
    none_marked (network_in c.args.net.now) c.clear-2.new.self (c.clear-2.ensures.fits ∙ c.requires.marks) c.clear-2.ensures.empty

pub returns-clause-near : goal.returns-clause-near
returns-clause-near c =
    let net = network_in c.args.net.now in
    let inside = c.step_vicinities.new.marks.inside in
    record {
      storage = c.step_vicinities.ensures.marks.storage;
      listed = λ i lt st. c.step_vicinities.ensures.grown (slice_index c.args.nodes.now i)
          (c.mark_beside.ensures.grown (slice_index c.args.nodes.now i) (c.mark_changed.ensures.changed i lt st));
      gated = λ i lt. gated_grown net c.mark_changed.new.marks.inside inside (slice_index c.args.nodes.now i)
          (λ u ins. c.step_vicinities.ensures.grown u (c.mark_beside.ensures.grown u ins)) (c.mark_changed.ensures.gated i lt);
      beside = beside_grown net c.mark_beside.new.marks.inside inside c.args.held c.step_vicinities.ensures.grown c.mark_beside.ensures.beside;
      closed = λ m v ins i. let e = i.ends in
          rw e at (chain_inside net c.args.state.now inside c.step_vicinities.ensures.closed.left c.step_vicinities.ensures.closed.right m i.chain ins
          i.is_chain);
    }
