use Rattle.std.proofs.Common.{ℕ, ◌<◌, get_or, refl, subst, below_more, arith}
use Rattle.std.proofs.lemmas.List.{get_or_default}
use Rattle.geometry_tests.proofs.class_tests.are_below.Goals as goal

pub loop-pair-preserved : goal.loop-pair-preserved
loop-pair-preserved c = λ k d.
    let pairs = c.args.pairs.now in
    let i = c.loop-pair.pair-index in
    let P : ℕ × ℕ → Type 0 = λ pair. (pair.0 < c.args.count) × (pair.1 < c.args.count) in
    below_more (λ (m : ℕ). P (get_or pairs m d)) i (λ m. c.loop-pair.invariant m d)
    (subst P (get_or_default pairs i _ d (omega arith)) (c.if-not-is_below.ensures refl)) k
