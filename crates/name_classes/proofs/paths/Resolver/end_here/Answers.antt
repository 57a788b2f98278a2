use Rattle.name_classes.proofs.Common.{List, length, sym, ap, subst, arith, slice_get_within, TreeElement, ElementTree, IsReached, IsSpotOf}
use Rattle.name_classes.proofs.Common.{LacksName}
use Rattle.name_classes.proofs.TreeLaws.{element_at, reached}
use Rattle.name_classes.proofs.PathLaws.{name_here, name_end}
use Rattle.name_classes.proofs.paths.Resolver.end_here.Goals as goal

pub bounds-items-number : goal.bounds-items-number
bounds-items-number c =
    let within = slice_get_within c.args.self.now.names.now.tree.now.elements c.args.number c.requires.named.flat c.requires.named.stands in
    omega (
      arith,
      within,
      ap (λ (tree : ElementTree). length tree.elements) c.requires.resolver.tree,
      ap (λ (all : List TreeElement). length all) c.items.ensures,
    )

pub offset_bounds-items-number : goal.offset_bounds-items-number
offset_bounds-items-number c = let within = bounds-items-number c in omega (arith, within, c.items.type_inv)

pub spot-requires-clause-reached : goal.spot-requires-clause-reached
spot-requires-clause-reached c =
    let names = c.args.self.now.names.now in
    let is = c.requires.resolver in
    let named = c.requires.named in
    let here = name_here is named c.items.ensures _ in
    let element = element_at names is.names c.args.number named.flat named.stands in
    subst (λ (flat : TreeElement). IsReached names flat.cell) (sym here) (reached names is.names c.args.number element.0 named.flat element.1)

pub unreachable-requires : goal.unreachable-requires
unreachable-requires c =
    let named = c.requires.named in
    let here = name_here c.requires.resolver named c.items.ensures _ in
    let lacks = subst (λ (flat : TreeElement). LacksName c.args.self.now.names.now flat.cell c.args.name.now) here c.in-None.ensures.none in
    lacks named.ext named.record_ named.named

pub returns : goal.returns
returns c =
    let names = c.args.self.now.names.now in
    let is = c.requires.resolver in
    let named = c.requires.named in
    let here = name_here is named c.items.ensures _ in
    let spot = subst (λ (flat : TreeElement). IsSpotOf names flat.cell c.args.name.now c.in-Some.spot) here c.in-Some.ensures.some in
    name_end names is.names c.args.number c.args.name.now named c.in-Some.spot spot
