-- The index keeps the names of layers, and the lists keep their limits.
use Rattle.tech_draft.proofs.Common.{length, refl, ap, arith, rules, Drafted}
use Rattle.tech_draft.proofs.IndexLaws.{images-kept}
use Rattle.tech_draft.proofs.draft.Draft.add_images.Goals as goal

pub invariant_of-self-in_default : goal.invariant_of-self-in_default
invariant_of-self-in_default c =
    let same = ap (λ (draft : Drafted). length draft.raw.types) c.self.view_is in
    images-kept c.self.inside _ c.args.layer.0 c.args.own c.args.others.now c.self.invariant refl refl (omega (arith, same, c.requires))
    (search rules)
