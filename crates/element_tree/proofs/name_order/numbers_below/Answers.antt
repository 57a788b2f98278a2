use Rattle.element_tree.proofs.Common.{◌++◌, [], ◌∷◌, sym, ◌∙◌, ap}
use Rattle.name_index.proofs.FiniteSets.Searches.{range_one_more}
use Rattle.element_tree.proofs.name_order.numbers_below.Goals as goal

pub loop-number-preserved : goal.loop-number-preserved
loop-number-preserved c = c.in_ok-push.ensures.items ∙ ap (λ z. z ++ c.loop-number.number ∷ []) c.loop-number.invariant
    ∙ sym (range_one_more c.loop-number.number)
