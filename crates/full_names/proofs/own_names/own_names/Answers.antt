use Rattle.full_names.proofs.Common.{ap, subst, List, ◌<◌, ◌≤◌, length, get_or, ◌∙◌, NodeRec}
use Rattle.full_names.proofs.OwnNameLaws.{names_none, names_more, names_all}
use Rattle.full_names.proofs.own_names.own_names.Goals as goal

pub loop-number-init : goal.loop-number-init
loop-number-init c = names_none c.args.global c.args.ext.now c.new-names.result.items c.new-names.ensures.items

pub loop-number-preserved : goal.loop-number-preserved
loop-number-preserved c = names_more c.args.global c.args.ext.now c.loop-number.number c.node-item.result c.loop-number.names.items
    c.add_names.new.names.items
    (subst (λ (nodes : List NodeRec). c.loop-number.number < length nodes) c.items-node-items.ensures c.loop-number-test.true)
    (c.node-item.is ∙ ap (λ (nodes : List NodeRec). get_or nodes c.loop-number.number c.node-item.result) c.items-node-items.ensures)
    c.loop-number.invariant
    (record { texts_are = c.in_ok-add_names.ensures.texts; each = c.in_ok-add_names.ensures.nodes })

pub returns : goal.returns
returns c = names_all c.args.global c.args.ext.now c.loop-number.number c.loop-number.names.items c.sort_unstable.new.self.items
    (subst (λ (nodes : List NodeRec). length nodes ≤ c.loop-number.number) c.items-node-items.ensures c.loop-number-test.false) c.loop-number.invariant
    c.sort_unstable.ensures.permutation c.sort_unstable.ensures.sorted
