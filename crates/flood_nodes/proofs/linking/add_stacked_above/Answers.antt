use Rattle.flood_nodes.proofs.Common.{◌≡◌, ◌+◌, ◌<◌, inl, inr, arith, cases_lt}
use Rattle.flood_nodes.proofs.LinkLaws.{adds_more}
use Rattle.flood_nodes.proofs.linking.add_stacked_above.Goals as goal

pub loop-high-preserved : goal.loop-high-preserved
loop-high-preserved c =
    let high = c.loop-high.high in
    adds_more c.args.tech.now c.args.tiles.now (λ p. p ≡ c.args.low) (λ p. p ≡ c.args.low) (λ p. p ≡ c.args.low) (λ p q. (p < q) × (q < high)) (λ p q. q ≡ high)
    (λ p q. (p < q) × (q < high + 1)) _ _ _ c.loop-high.invariant c.in_ok-add_stacked.ensures
    (λ p q on between. elim (cases_lt q high) [ inl less ↦ inl (on, (between.0, less)) | inr ge ↦ inr (on, omega (arith, between.1, ge)) ])
