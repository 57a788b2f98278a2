use Rattle.name_classes.proofs.Common.{◌<◌, ◌+◌, length, refl, ap, subst, arith, TreeElement, ElementTree, IsSpotOf, LacksName, IsBranchOf, LacksUse}
use Rattle.std.proofs.Common.{◌-◌}
use Rattle.name_classes.proofs.PathLaws.{walk_start, walk_step, walk_end, walk_lost, walk_stuck, walk_here, walk_inside, walk_reaches}
use Rattle.name_classes.proofs.paths.Resolver.end_of.Goals as goal

pub loop-id-init : goal.loop-id-init
loop-id-init c =
    let is = c.requires.resolver in
    let same = ap (λ (tree : ElementTree). length tree.elements) is.tree in
    let within : c.args.number < length c.args.self.now.names.now.tree.now.elements = omega (arith, same, c.requires.within) in
    walk_start c.args.self.now.names.now is.names c.args.number within c.args.path.now

pub bounds-elements-at : goal.bounds-elements-at
bounds-elements-at c = walk_inside c.requires.resolver c.loop-id.invariant c.items-elements.ensures

pub offset_bounds-elements-at : goal.offset_bounds-elements-at
offset_bounds-elements-at c = let within = bounds-elements-at c in omega (arith, within, c.items-elements.type_inv)

pub branch-self-requires-clause-reached : goal.branch-self-requires-clause-reached
branch-self-requires-clause-reached c = walk_reaches c.requires.resolver c.loop-id.invariant c.items-elements.ensures _

pub returns-in_err-at-clause-none : goal.returns-in_err-at-clause-none
returns-in_err-at-clause-none c =
    let here = walk_here c.requires.resolver c.loop-id.invariant c.items-elements.ensures _ in
    rw c.from_residual.ensures (walk_stuck c.loop-id.invariant c.in-Some.ensures.some
    (subst (λ (flat : TreeElement). LacksUse c.args.self.now.names.now flat.cell c.in-Some.id.now) here c.in_err-at.ensures.none))

pub loop-id-preserved : goal.loop-id-preserved
loop-id-preserved c =
    let here = walk_here c.requires.resolver c.loop-id.invariant c.items-elements.ensures _ in
    walk_step c.requires.resolver.names c.loop-id.invariant c.in-Some.ensures.some c.in_ok-at.field-0
    (subst (λ (flat : TreeElement). IsBranchOf c.args.self.now.names.now flat.cell c.in-Some.id.now c.in_ok-at.field-0) here c.in_ok-at.ensures.some)

pub overflow_add-at : goal.overflow_add-at
overflow_add-at c =
    let within = walk_inside c.requires.resolver (loop-id-preserved c) c.items-elements.ensures in
    omega (arith, within, c.items-elements.type_inv)

pub bounds-elements-at-2 : goal.bounds-elements-at-2
bounds-elements-at-2 c = walk_inside c.requires.resolver c.loop-id.invariant c.items-elements.ensures

pub offset_bounds-elements-at-2 : goal.offset_bounds-elements-at-2
offset_bounds-elements-at-2 c = let within = bounds-elements-at-2 c in omega (arith, within, c.items-elements.type_inv)

pub spot-requires-clause-reached : goal.spot-requires-clause-reached
spot-requires-clause-reached c = walk_reaches c.requires.resolver c.loop-id.invariant c.items-elements.ensures _

pub returns-in_err-spot-clause-none : goal.returns-in_err-spot-clause-none
returns-in_err-spot-clause-none c =
    let here = walk_here c.requires.resolver c.loop-id.invariant c.items-elements.ensures _ in
    rw c.from_residual-in_err-spot.ensures (walk_lost c.loop-id.invariant c.in_default.ensures.none
    (subst (λ (flat : TreeElement). LacksName c.args.self.now.names.now flat.cell c.loop-id.rest.now) here c.in_err-spot.ensures.none))

pub returns-clause-some : goal.returns-clause-some
returns-clause-some c =
    let here = walk_here c.requires.resolver c.loop-id.invariant c.items-elements.ensures _ in
    let spot = subst (λ (flat : TreeElement). IsSpotOf c.args.self.now.names.now flat.cell c.loop-id.rest.now c.in_ok-spot.spot) here
    c.in_ok-spot.ensures.some in
    walk_end c.requires.resolver.names c.loop-id.invariant c.in_default.ensures.none c.in_ok-spot.spot spot (c.loop-id.at - c.args.number) refl
