use Rattle.fet_regions.proofs.Common.{ℕ, ◌<◌, List, length, sym, ◌∙◌, subst, All}
use Rattle.fet_regions.proofs.ContactLaws.{pairs_within}
use Rattle.fet_regions.proofs.channels.label_alike.Goals as goal

pub classes-requires : goal.classes-requires
classes-requires c =
    let tiles = c.args.tiles.now in
    subst (λ (pairs : List (ℕ × ℕ)). All (λ (pair : ℕ × ℕ). (pair.0 < length tiles) × (pair.1 < length tiles)) pairs)
    (sym (c.as_slice.ensures.value ∙ c.in_ok-pairs.ensures)) (pairs_within tiles c.args.contacts.now c.requires)
