use Rattle.steady_state.proofs.Common.{IsStorage, IsInside, network_in}
use Rattle.steady_state.proofs.Moving.{below_one}
use Rattle.steady_state.proofs.marking.mark_all.Goals as goal

pub every-preserved : goal.every-preserved
every-preserved c =
    let a = c.mark.ensures in
    record {
      marks = a.marks;
      every = below_one (λ v. IsStorage (network_in c.args.net.now) v →
          IsInside c.mark.new.marks.inside v) c.every.node (λ v lt st. a.adds.grown v (c.every.invariant.every v lt st)) a.marked;
    }
