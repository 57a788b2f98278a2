use Rattle.steady_state.proofs.Common.{ℕ, slice_index, IsStorage, IsInside, IsGated, network_in}
use Rattle.steady_state.proofs.Moving.{gated_grown, below_one}
use Rattle.steady_state.proofs.changes.mark_changed.Goals as goal

pub changed-preserved : goal.changed-preserved
changed-preserved c =
    let a = c.mark.ensures in
    let b = c.mark_at.ensures in
    let inv = c.changed.invariant in
    let node : ℕ = slice_index c.args.changed.now c.changed.node-index in
    record {
      marks = b.marks;
      changed = below_one (λ i. IsStorage (network_in c.args.net.now) (slice_index c.args.changed.now i) →
          IsInside c.mark_at.new.marks.inside (slice_index c.args.changed.now i)) c.changed.node-index
          (λ i lt st. b.grown (slice_index c.args.changed.now i) (a.adds.grown (slice_index c.args.changed.now i) (inv.changed i lt st)))
          (λ st. b.grown node (a.marked st));
      gated = below_one (λ i. IsGated (network_in c.args.net.now) c.mark_at.new.marks.inside (slice_index c.args.changed.now i)) c.changed.node-index
          (λ i lt. gated_grown (network_in c.args.net.now) c.changed.marks.inside c.mark_at.new.marks.inside (slice_index c.args.changed.now i)
          (λ u ins. b.grown u (a.adds.grown u ins)) (inv.gated i lt)) b.ends;
    }
