use Rattle.flood_nodes.proofs.Common.{◌≡◌, ◌+◌, ◌<◌, length, inl, inr, sym, ◌∙◌, ap, subst, arith, cases_lt, Lists, RawTech, IsCrossing}
use Rattle.flood_nodes.proofs.LinkLaws.{adds_more}
use Rattle.flood_nodes.proofs.linking.add_all_stacked.Goals as goal

pub add_stacked_above-requires-clause-crossings : goal.add_stacked_above-requires-clause-crossings
add_stacked_above-requires-clause-crossings c =
    subst (Lists (IsCrossing c.args.tech.now c.args.tiles.now)) (sym c.as_slice.ensures.value) c.in_ok-crossings.ensures

pub loop-low-preserved : goal.loop-low-preserved
loop-low-preserved c =
    let low = c.loop-low.low in
    let planes = length c.args.tech.now.planes in
    let so_many = ap length c.items.ensures ∙ ap (λ (v : RawTech). length v.planes) c.raw.ensures.value in
    adds_more c.args.tech.now c.args.tiles.now (λ p. p < low) (λ p. p ≡ low) (λ p. p < low + 1) (λ p q. (p < q) × (q < planes)) (λ p q. (p < q) × (q < planes))
    (λ p q. (p < q) × (q < planes)) _ _ _ c.loop-low.invariant (rw so_many at c.in_ok-add_stacked_above.ensures)
    (λ p q before between. elim (cases_lt p low) [ inl less ↦ inl (less, between) | inr ge ↦ inr (omega (arith, before, ge), between) ])
