use Rattle.element_tree.proofs.Common.{◌≡◌, ◌∷◌, [], refl, SLASH, nat_cmp}
use Rattle.std.proofs.lemmas.Iterator.{YieldsList-from_slice}
use Rattle.std.proofs.lemmas.Iterator.Consumers.{YieldsList-from_chain}
use Rattle.std.proofs.lemmas.Iterator.Search.{cmp_from_yields_List}
use Rattle.element_tree.proofs.name_order.compare_ids.Goals as goal

pub returns : goal.returns
returns c = cmp_from_yields_List (λ x y. y ≡ x) _ nat_cmp _ c.cmp.ensures.ran
    (YieldsList-from_chain (YieldsList-from_slice c.args.id.now (cc)) (YieldsList-from_slice (SLASH ∷ []) (cc)) (cc) (cc))
    (λ it e. YieldsList-from_chain (YieldsList-from_slice c.args.other.now (cc)) (YieldsList-from_slice (SLASH ∷ []) (cc)) (cc) (cc))
    (λ x y. refl)
