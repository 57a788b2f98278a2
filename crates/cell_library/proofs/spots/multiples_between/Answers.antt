use Rattle.cell_library.proofs.Common.{arith}
use Rattle.cell_library.proofs.RowSpots.{as_kept, kept, kept_reach, kept_shift}
use Rattle.cell_library.proofs.spots.multiples_between.Goals as goal

pub returns : goal.returns
returns c = record {
  order = omega arith;
  within = omega arith;
  all = λ n below past before.
      let both = as_kept c.args.count c.multiples_around-from.result.0 c.multiples_around-from.result.1 c.args.step c.args.low c.args.high
      (kept c.args.step) (kept c.args.low) (kept c.args.high)
      (kept_shift c.args.step c.requires.step) (kept_reach c.args.low c.requires.low) (kept_reach c.args.high c.requires.high)
      c.multiples_around-from.ensures n below past before in
      (omega (arith, both), omega (arith, both, below));
}
