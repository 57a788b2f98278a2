use Rattle.ext_loading.proofs.Common.{◌∙◌, ◌++◌, ap, ℕ, List, map, ArrayUse}
use Rattle.std.proofs.lemmas.Iterator.Adapters.{YieldsList-from_rev_slice}
use Rattle.std.proofs.lemmas.Iterator.Consumers.{YieldsList-end}
use Rattle.ext_loading.proofs.ReadingLaws.{map-reverse}
use Rattle.ext_loading.proofs.walks.ask_for.Goals as goal

pub returns-clause-asked : goal.returns-clause-asked
returns-clause-asked c =
    let start = c.into_iter-used-iterator.ensures.into_iter_gives in
    let rest = ap (λ i. i.iter.rest.now) start ∙ ap (λ i. i.rest.now) c.rev-used-items.ensures.source ∙ c.iter.ensures.rest in
    let all = YieldsList-end (YieldsList-from_rev_slice c.args.uses.now rest) c.loop-used.yielded _ c.loop-used.yielded_by _ _ c.in-None.is
    c.next.ensures.steps in
    c.loop-used.invariant
    ∙ ap (λ (uses : List ArrayUse). c.args.left.now.items ++ map (λ used. used.cell) uses) all.0
    ∙ ap (λ (names : List (List ℕ)). c.args.left.now.items ++ names) (map-reverse (λ (used : ArrayUse). used.cell) c.args.uses.now)
