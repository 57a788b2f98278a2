use Rattle.steady_state.proofs.Common.{arith, inl, inr, ℕ, refl, sym, slice_index, IsInside}
use Rattle.steady_state.proofs.Collecting.{adds_none, adds_then}
use Rattle.steady_state.proofs.Rounds.{made_more, made_none}
use Rattle.steady_state.proofs.Moving.{below_one}
use Rattle.steady_state.proofs.forcing.force.Goals as goal

pub nodes-init : goal.nodes-init
nodes-init c = record {
  fits = refl;
  adds = adds_none c.args.forced.now;
  only = λ v ins. inl ins;
  all = λ i lt. absurd (omega arith);
  state = made_none c.args.nodes.now c.args.state.now;
  next = made_none c.args.nodes.now c.args.next.now;
}

pub nodes-preserved : goal.nodes-preserved
nodes-preserved c =
    let here = c.add.ensures in
    let inv = c.nodes.invariant in
    let n : ℕ = c.nodes.node-index in
    record {
      fits = omega (arith, here.fits, inv.fits);
      adds = adds_then c.args.forced.now c.nodes.forced c.add.new.self inv.adds (record { grown = here.grown; same = here.order; more = here.more });
      only = λ v ins. elim (here.others v ins) [
        | inl old ↦ elim (inv.only v old) [ inl first ↦ inl first | inr q ↦ inr (q.0, omega (arith, q.1), q.2) ]
        | inr is ↦ inr (n, omega arith, sym is)
      ];
      all = below_one (λ (i : ℕ). IsInside c.add.new.self.inside (slice_index c.args.nodes.now i)) n
          (λ i lt. here.grown (slice_index c.args.nodes.now i) (inv.all i lt)) here.here;
      state = made_more c.args.nodes.now n c.args.state.now c.nodes.state (omega arith) inv.state;
      next = made_more c.args.nodes.now n c.args.next.now c.nodes.next (omega arith) inv.next;
    }
