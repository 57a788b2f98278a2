use Rattle.full_names.proofs.Common.{◌∷◌, ◌++◌, [], ◌∙◌, ap, arith, NameKey}
use Rattle.full_names.proofs.KeyLaws.{keys_none, keys_more, keys_all}
use Rattle.full_names.proofs.keys.sorted_keys.Goals as goal

pub loop-slot-init : goal.loop-slot-init
loop-slot-init c = keys_none c.args.tree.now.elements c.args.records.now c.args.places.now c.in_ok-keys.keys.items c.in_ok-keys.ensures.items

pub loop-slot-preserved : goal.loop-slot-preserved
loop-slot-preserved c = keys_more c.args.tree.now.elements c.args.records.now c.args.places.now c.loop-slot.slot c.loop-slot.keys.items
    c.push.new.self.items c.loop-slot-test.true
    (c.in_ok-push.ensures.items ∙ ap (λ (key : NameKey). c.loop-slot.keys.items ++ key ∷ []) c.key_of.ensures) c.loop-slot.invariant

pub returns : goal.returns
returns c =
    let past = c.loop-slot-test.false in
    let here = c.loop-slot.auto.slot-end in
    keys_all c.args.tree.now.elements c.args.records.now c.args.places.now c.loop-slot.slot c.loop-slot.keys.items c.sort_unstable.new.self.items
    (omega (arith, past, here)) c.loop-slot.invariant c.sort_unstable.ensures.permutation c.sort_unstable.ensures.sorted
