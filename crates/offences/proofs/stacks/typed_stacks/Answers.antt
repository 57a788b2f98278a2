use Rattle.offences.proofs.Common.{List, subst, ◌∙◌, Vec, Global, ◌≡◌, All, IfOk-weaker, Rect, Stack, AreStacks, SetTile, TypedStack, StandForAll}
use Rattle.offences.proofs.Common.{StandForTiles, HasMembers}
use Rattle.offences.proofs.MemberLaws.{have_members}
use Rattle.offences.proofs.StackLaws.{tile_areas}
use Rattle.offences.proofs.TypedStackLaws.{are_typed_stacks}
use Rattle.offences.proofs.stacks.typed_stacks.Goals as goal

-- stacks of a slice of the tiles' areas are those of the tiles
stacks_are : (tiles : List SetTile) (stacks : List Stack) (areas slice : List Rect) → slice ≡ areas → areas ≡ tile_areas tiles
    → AreStacks slice stacks → AreStacks (tile_areas tiles) stacks
stacks_are tiles stacks areas slice read made are = subst (λ (r : List Rect). AreStacks r stacks) (read ∙ made) are

pub typed_stacks_of-requires-clause-stacks : goal.typed_stacks_of-requires-clause-stacks
typed_stacks_of-requires-clause-stacks c =
    stacks_are c.args.tiles.now c.in_ok-stacks.stacks.items _ _ c.as_slice.ensures.value c.in_ok-areas.ensures c.in_ok-stacks.ensures

pub returns-clause-stand : goal.returns-clause-stand
returns-clause-stand c =
    let raw = c.args.tech.now in
    let plane = c.args.plane in
    let tiles = c.args.tiles.now in
    let stacks = c.in_ok-stacks.stacks.items in
    let are = stacks_are tiles stacks _ _ c.as_slice.ensures.value c.in_ok-areas.ensures c.in_ok-stacks.ensures in
    IfOk-weaker c.typed_stacks_of.result (λ typed_stacks. StandForAll raw plane tiles stacks typed_stacks.items)
    (λ typed_stacks. StandForTiles raw plane tiles typed_stacks.items)
    (λ (typed_stacks : Vec TypedStack Global) stand count of_parts types.
    are_typed_stacks raw plane tiles stacks are typed_stacks.items stand count of_parts types)
    c.typed_stacks_of.ensures

pub returns-clause-members : goal.returns-clause-members
returns-clause-members c =
    let raw = c.args.tech.now in
    let plane = c.args.plane in
    let tiles = c.args.tiles.now in
    let stacks = c.in_ok-stacks.stacks.items in
    let are = stacks_are tiles stacks _ _ c.as_slice.ensures.value c.in_ok-areas.ensures c.in_ok-stacks.ensures in
    IfOk-weaker c.typed_stacks_of.result (λ typed_stacks. StandForAll raw plane tiles stacks typed_stacks.items)
    (λ typed_stacks. All (HasMembers tiles) typed_stacks.items)
    (λ (typed_stacks : Vec TypedStack Global) stand. have_members raw plane tiles stacks are typed_stacks.items stand)
    c.typed_stacks_of.ensures
