use Rattle.flatten.proofs.Common.{◌≡◌, ◌<◌, length, map, sym, ◌∙◌, ap, subst, Vec, Global, All, IfOk-weaker, TermRec, element_at, named_side}
use Rattle.flatten.proofs.Common.{AreFlatTerminals}
use Rattle.flatten.proofs.TerminalLaws.{terminals_flat}
use Rattle.flatten.proofs.sides.flat_terminals.Goals as goal

pub named_sides-requires : goal.named_sides-requires
named_sides-requires c =
    subst (All (λ side. side.node < length c.args.nodes.now)) (sym c.as_slice.ensures.value)
    (terminals_flat c.requires.names c.requires.labels c.requires.nodes c.args.element c.requires.element c.args.terminals.now c.requires.spots
    c.in_ok-sides.ensures c.in_ok-joined.ensures).0

pub returns : goal.returns
returns c =
    let flat = terminals_flat c.requires.names c.requires.labels c.requires.nodes c.args.element c.requires.element c.args.terminals.now
    c.requires.spots c.in_ok-sides.ensures c.in_ok-joined.ensures in
    let R = AreFlatTerminals c.args.nodes.now (element_at c.args.names.now c.args.element) c.args.terminals.now in
    IfOk-weaker c.named_sides.result (λ (v : Vec TermRec Global). v.items ≡ map (named_side c.args.nodes.now) c.as_slice.result.now)
    (λ (v : Vec TermRec Global). R v.items)
    (λ v is. subst R (sym (is ∙ ap (map (named_side c.args.nodes.now)) c.as_slice.ensures.value)) flat.1) c.named_sides.ensures
