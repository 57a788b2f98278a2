use Rattle.full_names.proofs.Common.{◌≡◌, ◌∷◌, List, ℕ, subst, take, ◌∙◌, take_all}
use Rattle.full_names.proofs.OwnNameLaws.{AreAdded, added_first, added_alias}
use Rattle.full_names.proofs.own_names.add_names.Goals as goal

pub loop-alias-init : goal.loop-alias-init
loop-alias-init c = added_first c.args.global c.args.number c.bytes.result.now c.args.node.now.name c.args.names.now.items c.add_name.new.names.items
    c.bytes.ensures (record { texts_are = c.in_ok-add_name.ensures.texts; each = c.in_ok-add_name.ensures.nodes })

pub loop-alias-preserved : goal.loop-alias-preserved
loop-alias-preserved c = added_alias c.args.global c.args.number c.args.node.now.name c.items-alias-items.result.now c.loop-alias.alias-index
    c.bytes-in-loop-alias.result.now c.alias-item.result c.args.names.now.items c.loop-alias.names.items c.add_name-in-loop-alias.new.names.items
    c.loop-alias-test.true c.alias-item.is c.bytes-in-loop-alias.ensures c.loop-alias.invariant
    (record { texts_are = c.in_ok-add_name-2.ensures.texts; each = c.in_ok-add_name-2.ensures.nodes })

pub returns : goal.returns
returns c =
    let all : take c.loop-alias.alias-index c.items-alias-items.result.now ≡ c.args.node.now.aliases =
    take_all c.loop-alias.alias-index c.items-alias-items.result.now c.loop-alias-test.false ∙ c.items-alias-items.ensures in
    let added = subst (λ (aliases : List (List ℕ)). AreAdded c.args.global c.args.number (c.args.node.now.name ∷ aliases) c.args.names.now.items
    c.loop-alias.names.items) all c.loop-alias.invariant in
    record { texts = added.texts_are; nodes = added.each }
