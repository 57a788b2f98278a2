use Rattle.steady_state.proofs.Common.{arith, slice_index, Contains-get_or, network_in}
use Rattle.steady_state.proofs.Collecting.{none_reached, seed_reached, seeded_more}
use Rattle.steady_state.proofs.marking.mark_seeds.Goals as goal

pub seeds-init : goal.seeds-init
seeds-init c = record {
  marks = c.requires.marks;
  reached = λ s. none_reached (network_in c.args.net.now) s c.args.seeds.now c.args.marks.now c.requires.none;
  seeded = λ k d lt. absurd (omega arith);
}

pub seeds-preserved : goal.seeds-preserved
seeds-preserved c = record {
  marks = c.mark.ensures.marks;
  reached = λ s. c.mark.ensures.reached s c.args.seeds.now (c.seeds.invariant.reached s)
      (λ st. seed_reached (network_in c.args.net.now) s c.args.seeds.now (slice_index c.args.seeds.now c.seeds.seed-index)
      (Contains-get_or c.args.seeds.now c.seeds.seed-index 0 c.seeds-test.true) st);
  seeded = seeded_more (network_in c.args.net.now) c.args.seeds.now c.seeds.marks.inside c.mark.new.marks.inside c.seeds.seed-index c.seeds-test.true
      c.mark.ensures.adds.grown c.mark.ensures.marked c.seeds.invariant.seeded;
}
