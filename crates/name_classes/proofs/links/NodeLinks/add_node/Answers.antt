use Rattle.name_classes.proofs.Common.{◌≡◌, ℕ, true, List, length, take, inl, inr, refl, sym, subst, slice_get_read, In, In-slice_get}
use Rattle.name_classes.proofs.Common.{take-slice_get, names_of, IsEndFrom, IsGlobalName}
use Rattle.name_classes.proofs.LinkLaws.{Grown, node_name_of, global_name, none_added, alias_added}
use Rattle.name_classes.proofs.links.NodeLinks.add_node.Goals as goal

pub end_here-preferred-requires-clause-named : goal.end_here-preferred-requires-clause-named
end_here-preferred-requires-clause-named c =
    rw c.bytes.ensures
    (node_name_of c.args.resolver.now.names.now c.args.number c.args.ext.now c.requires.at c.args.node.now c.requires.node c.args.node.now.name (inl refl))

pub loop-alias-init : goal.loop-alias-init
loop-alias-init c =
    let names = c.args.resolver.now.names.now in
    let node = c.args.node.now in
    let named = node_name_of names c.args.number c.args.ext.now c.requires.at node c.requires.node node.name (inl refl) in
    let preferred = subst (λ (name : List ℕ). IsEndFrom names c.args.number name c.end_here-preferred.result) c.bytes.ensures c.end_here-preferred.ensures in
    let tells : c.is_global.result ≡ true → IsGlobalName node.name = λ flag.
    global_name names c.requires.resolver.names c.args.number node.name named (rw c.bytes-2.ensures at (c.is_global.ensures.0 flag)) in
    rw c.then_some-global.ensures (none_added names c.args.number node c.args.self.now c.end_here-preferred.result preferred c.is_global.result tells)

pub end_here-end-requires-clause-named : goal.end_here-end-requires-clause-named
end_here-end-requires-clause-named c =
    let node = c.args.node.now in
    let here = slice_get_read c.items-alias-items.result.now (length c.items-alias-items.result.now) c.loop-alias.alias-index c.alias-item.result refl
    c.loop-alias-test.true c.alias-item.is in
    let within = rw c.items-alias-items.ensures at (In-slice_get c.items-alias-items.result.now c.loop-alias.alias-index c.alias-item.result here) in
    rw c.bytes-in-loop-alias.ensures
    (node_name_of c.args.resolver.now.names.now c.args.number c.args.ext.now c.requires.at node c.requires.node c.alias-item.result (inr within))

pub loop-alias-preserved : goal.loop-alias-preserved
loop-alias-preserved c =
    let names = c.args.resolver.now.names.now in
    let node = c.args.node.now in
    let aliases = c.items-alias-items.result.now in
    let index = c.loop-alias.alias-index in
    let alias = c.alias-item.result in
    let here = slice_get_read aliases (length aliases) index alias refl c.loop-alias-test.true c.alias-item.is in
    let within : In alias (names_of node) = inr (rw c.items-alias-items.ensures at (In-slice_get aliases index alias here)) in
    let named = node_name_of names c.args.number c.args.ext.now c.requires.at node c.requires.node alias within in
    let preferred = subst (λ (name : List ℕ). IsEndFrom names c.args.number name c.end_here-preferred.result) c.bytes.ensures c.end_here-preferred.ensures in
    let end = subst (λ (name : List ℕ). IsEndFrom names c.args.number name c.end_here-end.result) c.bytes-in-loop-alias.ensures c.end_here-end.ensures in
    let tells : c.is_global-in-loop-alias.result ≡ true → IsGlobalName alias = λ flag.
    global_name names c.requires.resolver.names c.args.number alias named (rw c.bytes-in-loop-alias-2.ensures at (c.is_global-in-loop-alias.ensures.0 flag)) in
    let P : List (List ℕ) → Type 0 = λ done. Grown names c.args.number node done c.args.self.now c.add_alias.new.self c.in_ok-global.global in
    subst P (sym (take-slice_get aliases index alias here))
    (alias_added names c.args.number node (take index aliases) alias c.end_here-preferred.result c.end_here-end.result c.args.self.now c.loop-alias.self
    c.add_alias.new.self c.loop-alias.invariant.adds preferred within end c.loop-alias.global c.is_global-in-loop-alias.result c.in_ok-global.global
    c.loop-alias.invariant.first tells c.in_ok-global.ensures)
