use Rattle.fet_regions.proofs.Common.{◌<◌, ◌++◌, List, sym, ◌∙◌, ap, subst, arith, All, Amount, shared_amounts}
use Rattle.fet_regions.proofs.ContactLaws.{area_keys, all_keys}
use Rattle.fet_regions.proofs.sizes.sizes_of.Goals as goal

pub sums_by_key-requires : goal.sums_by_key-requires
sums_by_key-requires c =
    let long = c.requires.long in
    subst (All (λ (a : Amount). a.key < c.args.count)) (sym (c.as_slice.ensures.value ∙ c.in_ok-areas.ensures))
    (area_keys c.args.tiles.now c.args.labels.now c.args.count (λ i inside. c.requires.below i 0 (omega (arith, inside, long))))

pub sums_by_key-requires-2 : goal.sums_by_key-requires-2
sums_by_key-requires-2 c =
    let long = c.requires.long in
    subst (All (λ (a : Amount). a.key < c.args.count)) (sym (c.as_slice-2.ensures.value ∙ c.in_ok-push_shared.ensures
    ∙ ap (λ (v : List Amount). v ++ shared_amounts c.args.tiles.now c.args.labels.now c.args.contacts.now) c.in_ok-perimeters.ensures))
    (all_keys c.args.tiles.now c.args.labels.now c.args.count (λ i inside. c.requires.below i 0 (omega (arith, inside, long))) c.args.contacts.now
    c.requires.within)
