use Rattle.tile_plane.proofs.Common.{◌≡◌, pos, ◌-ℤ◌, ◌<ℤ◌, w64, to_z, of_z, refl, ap, arith, ints, to_z-of_z, plane_range, Tile, tile_at}
use Rattle.tile_plane.proofs.KeepLaws.{grown_self, tall_upon}
use Rattle.tile_plane.proofs.StackLaws.{IsUpon, AreJoinable, joinable_as_read, unlike_as_read, owner_above, stands_upon, joined_grow, joined_taken, joined_tall}
use Rattle.tile_plane.proofs.joins.join_above.Goals as goal
use Rattle.tile_plane.proofs.joins.join_above.Goals.{Else-y-lower, Then-may_join}

ends : (c : Else-y-lower) → (tile_at c.args.store.now c.args.id).area.yhi ≡ c.args.y
ends c =
    let same : to_z w64 (of_z w64 c.args.y) ≡ c.args.y = to_z-of_z w64 c.args.y c.ranges.y in
    let edge = ap (λ (t : Tile). t.area.yhi) c.get-lower.ensures in
    omega (arith, ints)

inside : (c : Else-y-lower) → (tile_at c.args.store.now c.args.id).area.yhi <ℤ plane_range.yhi
inside c = let end = ends c in let bounds = c.requires in omega (arith, ints)

upon : (c : Else-y-lower) → IsUpon c.args.store.now c.args.id c.get-lower.result.above
upon c = stands_upon _ _ c.get-lower.result c.requires.partition c.requires.stitches c.requires.taken c.get-lower.ensures (inside c)

joinable : (c : Then-may_join) → AreJoinable c.args.store.now c.args.id c.get-lower.result.above
joinable c = joinable_as_read _ _ _ _ _ c.get-lower.ensures c.get-upper.ensures (c.if-may_join.ensures.yes refl)

pub returns-then-y-lower-clause-joining : goal.returns-then-y-lower-clause-joining
returns-then-y-lower-clause-joining c = record {
  partition = c.requires.partition;
  stitches = c.requires.stitches;
  same = λ s. refl;
  grown = grown_self c.args.store.now;
}

pub returns-then-y-lower-clause-tall : goal.returns-then-y-lower-clause-tall
returns-then-y-lower-clause-tall c =
    let same : to_z w64 (of_z w64 c.args.y) ≡ c.args.y = to_z-of_z w64 c.args.y c.ranges.y in
    let edge = ap (λ (t : Tile). t.area.yhi) c.get-lower.ensures in
    λ ends x owns. absurd (omega (arith, ints, ends))

pub get-upper-requires : goal.get-upper-requires
get-upper-requires c = (upon (goal.at.get-upper-requires c).Else-y-lower).other_taken

pub join_up-requires-clause-other_taken : goal.join_up-requires-clause-other_taken
join_up-requires-clause-other_taken c = (upon (goal.at.join_up-requires-clause-other_taken c).Else-y-lower).other_taken

pub join_up-requires-clause-meet : goal.join_up-requires-clause-meet
join_up-requires-clause-meet c = (upon (goal.at.join_up-requires-clause-meet c).Else-y-lower).meet

pub join_up-requires-clause-low : goal.join_up-requires-clause-low
join_up-requires-clause-low c = (joinable (goal.at.join_up-requires-clause-low c).Then-may_join).low

pub join_up-requires-clause-high : goal.join_up-requires-clause-high
join_up-requires-clause-high c = (joinable (goal.at.join_up-requires-clause-high c).Then-may_join).high

pub join_up-requires-clause-value : goal.join_up-requires-clause-value
join_up-requires-clause-value c = (joinable (goal.at.join_up-requires-clause-value c).Then-may_join).value

pub returns-then-may_join-clause-joining : goal.returns-then-may_join-clause-joining
returns-then-may_join-clause-joining c =
    let at = goal.at.returns-then-may_join-clause-joining c in
    let joined = c.join_up.ensures in
    record {
      partition = joined.partition;
      stitches = joined.stitches;
      same = joined.same;
      grown = joined_grow (upon at.Else-y-lower) (joinable at.Then-may_join) joined.joined;
    }

pub returns-then-may_join-clause-taken : goal.returns-then-may_join-clause-taken
returns-then-may_join-clause-taken c =
    let at = goal.at.returns-then-may_join-clause-taken c in
    joined_taken (upon at.Else-y-lower) (joinable at.Then-may_join) c.join_up.ensures.joined

pub returns-then-may_join-clause-tall : goal.returns-then-may_join-clause-tall
returns-then-may_join-clause-tall c =
    let at = goal.at.returns-then-may_join-clause-tall c in
    λ here x mine.
    let end = ends at.Else-y-lower in
    let covers = mine.covers in
    joined_tall (upon at.Else-y-lower) (joinable at.Then-may_join) c.join_up.ensures.joined x (c.args.y -ℤ pos 1) c.join_up.ensures.partition
    (omega (arith, ints)) covers.right_of_xlo covers.left_of_xhi

pub returns-else-may_join-clause-joining : goal.returns-else-may_join-clause-joining
returns-else-may_join-clause-joining c =
    record { partition = c.requires.partition; stitches = c.requires.stitches; same = λ s. refl; grown = grown_self c.args.store.now }

pub returns-else-may_join-clause-tall : goal.returns-else-may_join-clause-tall
returns-else-may_join-clause-tall c =
    let at = (goal.at.returns-else-may_join-clause-tall c).Else-y-lower in
    let end = ends at in
    λ here x mine. tall_upon _ c.args.id c.get-lower.result.above x (c.args.y -ℤ pos 1) c.requires.partition c.requires.taken
    (owner_above _ _ c.get-lower.result c.requires.partition c.requires.stitches c.requires.taken c.get-lower.ensures (inside at)) (omega (arith, ints))
    (unlike_as_read _ _ _ _ _ c.get-lower.ensures c.get-upper.ensures (c.if-may_join.ensures.no refl)) mine
