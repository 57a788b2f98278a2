-- The texts of labels that name no place are one list.
use Rattle.uniqueness.proofs.Common.{◌≡◌, ◌<◌, ℕ, List, map, sym, ◌∙◌, ap, arith, same_by_order, Pairwise-from_AllPairs, Label}
use Rattle.tree_circuits.specs.OwnRecordLaws.Names.Attachments.{AreTextsOf, IsUnattached, label_at}
use Rattle.uniqueness.specs.OwnUniqueness.{UnattachedTextsAreUnique}

-- the texts of labels with a fact are one list
same_texts : (labels : List Label) (Has : ℕ → Type 0) (texts others : List (List ℕ)) → AreTextsOf labels Has texts → AreTextsOf labels Has others
    → texts ≡ others
same_texts labels Has texts others p q =
    let indices : p.indices ≡ q.indices =
    same_by_order ◌<◌ (λ n before. omega (arith, before)) (λ a b c first second. omega (arith, first, second)) p.indices q.indices
    (Pairwise-from_AllPairs ◌<◌ p.indices p.in_order) (Pairwise-from_AllPairs ◌<◌ q.indices q.in_order)
    (λ index here. q.listed.1 index (p.listed.2 index here)) (λ index here. p.listed.1 index (q.listed.2 index here)) in
    p.are ∙ ap (map (λ index. (label_at labels index).text)) indices ∙ sym q.are

pub unattached_texts_are_one : UnattachedTextsAreUnique
unattached_texts_are_one raw layout labels = same_texts labels (IsUnattached raw layout labels)
