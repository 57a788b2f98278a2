use Rattle.offences.proofs.Common.{ℕ, ◌<◌, List, sym, subst, Vec, Global, All, AllPairs, All-weaker, IfOk-weaker, All-from_In, Rect, IsNear}
use Rattle.offences.proofs.Common.{AreDisjoint, IsProper, SetTile, TypedStack, SetLayout, OffendsOn, CoverExactly, tile_parts, AreByPart}
use Rattle.offences.proofs.Common.{AreTypedStacks, typed_stack_areas}
use Rattle.std.proofs.lemmas.List.Sorted.{All-permutation}
use Rattle.offences.proofs.MemberLaws.{of_moved}
use Rattle.offences.proofs.pieces.bad_pieces.Goals as goal

pub typed_stacks-requires-clause-near : goal.typed_stacks-requires-clause-near
typed_stacks-requires-clause-near c =
    let near = All-weaker (λ (tile : SetTile). (tile.part < c.args.count) × IsNear tile.area) (λ (tile : SetTile). IsNear tile.area) (λ tile of. of.1)
    c.args.tiles.now c.requires.parts in
    subst (All (λ (tile : SetTile). IsNear tile.area)) (sym c.as_slice.ensures.value)
    (All-permutation (λ (tile : SetTile). IsNear tile.area) c.args.tiles.now c.in_ok-sorted.sorted.items c.in_ok-sorted.ensures.moved near)

pub bad_stacks-requires-clause-sound : goal.bad_stacks-requires-clause-sound
bad_stacks-requires-clause-sound c =
    let typed_stacks = c.in_ok-typed_stacks.typed_stacks.items in
    let are = of_moved c.args.tech.now c.args.plane c.args.tiles.now c.in_ok-sorted.sorted.items c.in_ok-sorted.ensures.moved c.as_slice.result.now
    c.as_slice.ensures.value typed_stacks c.in_ok-typed_stacks.ensures.stand c.args.count c.requires.parts c.requires.types in
    subst (All (λ (s : TypedStack). IsProper s.area × IsNear s.area × AreByPart s.kinds)) (sym c.as_slice-2.ensures.value)
    (All-from_In (λ (s : TypedStack). IsProper s.area × IsNear s.area × AreByPart s.kinds) typed_stacks
    (λ s h. let is = are.each s h in (is.proper, is.near, is.ordered)))

pub bad_stacks-requires-clause-apart : goal.bad_stacks-requires-clause-apart
bad_stacks-requires-clause-apart c =
    let typed_stacks = c.in_ok-typed_stacks.typed_stacks.items in
    let are = of_moved c.args.tech.now c.args.plane c.args.tiles.now c.in_ok-sorted.sorted.items c.in_ok-sorted.ensures.moved c.as_slice.result.now
    c.as_slice.ensures.value typed_stacks c.in_ok-typed_stacks.ensures.stand c.args.count c.requires.parts c.requires.types in
    subst (λ (s : List TypedStack). AllPairs AreDisjoint (typed_stack_areas s)) (sym c.as_slice-2.ensures.value) are.apart

pub returns : goal.returns
returns c =
    let raw = c.args.tech.now in
    let plane = c.args.plane in
    let parts = tile_parts c.args.tiles.now plane c.args.count in
    let typed_stacks = c.in_ok-typed_stacks.typed_stacks.items in
    let are = of_moved raw plane c.args.tiles.now c.in_ok-sorted.sorted.items c.in_ok-sorted.ensures.moved c.as_slice.result.now
    c.as_slice.ensures.value typed_stacks c.in_ok-typed_stacks.ensures.stand c.args.count c.requires.parts c.requires.types in
    IfOk-weaker c.bad_stacks.result
    (λ pieces. (parts : List SetLayout) (plane : ℕ) → AreTypedStacks raw parts plane c.as_slice-2.result.now
    → CoverExactly (OffendsOn raw parts plane) pieces.items)
    (λ pieces. CoverExactly (OffendsOn raw parts plane) pieces.items)
    (λ (pieces : Vec Rect Global) cover. cover parts plane
    (subst (λ (s : List TypedStack). AreTypedStacks raw parts plane s) (sym c.as_slice-2.ensures.value) are))
    c.bad_stacks.ensures
