use Rattle.cell_library.proofs.Common.{ap, ◌∙◌, arith, unsigned_abs, ints}
use Rattle.cell_library.proofs.GridSpots.{around_up, around_down}
use Rattle.cell_library.proofs.RowSpots.{kept_shift}
use Rattle.cell_library.proofs.spots.multiples_around.Goals as goal

pub returns-then-step-gt0 : goal.returns-then-step-gt0
returns-then-step-gt0 c = λ n below past before.
    around_up c.args.step c.args.low c.args.high c.unsigned_abs-size.result c.first_past.result c.past_last.result
    (omega (arith, ints, c.if-step-gt0.true)) (c.unsigned_abs-size.ensures.value ∙ ap unsigned_abs (kept_shift c.args.step c.requires.step))
    (λ k h. c.first_past.ensures k (omega (arith, ints, h))) (λ k h. c.past_last.ensures k (omega (arith, ints, h))) n past before

pub returns-then-step-lt0 : goal.returns-then-step-lt0
returns-then-step-lt0 c = λ n below past before.
    around_down c.args.step c.args.low c.args.high c.unsigned_abs-size-then-step-lt0.result c.first_past-then-step-lt0.result
    c.past_last-then-step-lt0.result
    (omega (arith, ints, c.if-step-lt0.true)) (c.unsigned_abs-size-then-step-lt0.ensures.value
    ∙ ap unsigned_abs (kept_shift c.args.step c.requires.step))
    (λ k h. c.first_past-then-step-lt0.ensures k (omega (arith, ints, h, c.requires.high)))
    (λ k h. c.past_last-then-step-lt0.ensures k (omega (arith, ints, h, c.requires.low))) n past before
