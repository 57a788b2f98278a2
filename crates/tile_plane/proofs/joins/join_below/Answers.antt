use Rattle.tile_plane.proofs.Common.{◌≡◌, pos, ◌-ℤ◌, ◌<ℤ◌, w64, to_z, of_z, refl, ap, arith, ints, to_z-of_z, plane_range, Tile, tile_at}
use Rattle.tile_plane.proofs.KeepLaws.{grown_self, tall_in_one, tall_under}
use Rattle.tile_plane.proofs.StackLaws.{IsUpon, AreJoinable, joinable_as_read, unlike_as_read, owner_below, stands_under, joined_grow, upper_goes, joined_tall}
use Rattle.tile_plane.proofs.joins.join_below.Goals as goal
use Rattle.tile_plane.proofs.joins.join_below.Goals.{Else-upper-y, Then-may_join}

begins : (c : Else-upper-y) → (tile_at c.args.store.now c.args.id).area.ylo ≡ c.args.y
begins c =
    let same : to_z w64 (of_z w64 c.args.y) ≡ c.args.y = to_z-of_z w64 c.args.y c.ranges.y in
    let edge = ap (λ (t : Tile). t.area.ylo) c.get-upper.ensures in
    omega (arith, ints)

inside : (c : Else-upper-y) → plane_range.ylo <ℤ (tile_at c.args.store.now c.args.id).area.ylo
inside c = let begin = begins c in let bounds = c.requires in omega (arith, ints)

upon : (c : Else-upper-y) → IsUpon c.args.store.now c.get-upper.result.below c.args.id
upon c = stands_under _ _ c.get-upper.result c.requires.partition c.requires.stitches c.requires.taken c.get-upper.ensures (inside c)

joinable : (c : Then-may_join) → AreJoinable c.args.store.now c.get-upper.result.below c.args.id
joinable c = joinable_as_read _ _ _ _ _ c.get-lower.ensures c.get-upper.ensures (c.if-may_join.ensures.yes refl)

pub returns-then-upper-y-clause-joining : goal.returns-then-upper-y-clause-joining
returns-then-upper-y-clause-joining c = record {
  partition = c.requires.partition;
  stitches = c.requires.stitches;
  same = λ s. refl;
  grown = grown_self c.args.store.now;
}

pub returns-then-upper-y-clause-tall : goal.returns-then-upper-y-clause-tall
returns-then-upper-y-clause-tall c =
    let same : to_z w64 (of_z w64 c.args.y) ≡ c.args.y = to_z-of_z w64 c.args.y c.ranges.y in
    let edge = ap (λ (t : Tile). t.area.ylo) c.get-upper.ensures in
    λ x mine. (let its = mine.covers in
    tall_in_one c.args.store.now x (c.args.y -ℤ pos 1) c.args.id c.requires.partition (omega (arith, ints)) (omega (arith, ints)))

pub get-lower-requires : goal.get-lower-requires
get-lower-requires c = (upon (goal.at.get-lower-requires c).Else-upper-y).taken

pub join_up-requires-clause-taken : goal.join_up-requires-clause-taken
join_up-requires-clause-taken c = (upon (goal.at.join_up-requires-clause-taken c).Else-upper-y).taken

pub join_up-requires-clause-meet : goal.join_up-requires-clause-meet
join_up-requires-clause-meet c = (upon (goal.at.join_up-requires-clause-meet c).Else-upper-y).meet

pub join_up-requires-clause-low : goal.join_up-requires-clause-low
join_up-requires-clause-low c = (joinable (goal.at.join_up-requires-clause-low c).Then-may_join).low

pub join_up-requires-clause-high : goal.join_up-requires-clause-high
join_up-requires-clause-high c = (joinable (goal.at.join_up-requires-clause-high c).Then-may_join).high

pub join_up-requires-clause-value : goal.join_up-requires-clause-value
join_up-requires-clause-value c = (joinable (goal.at.join_up-requires-clause-value c).Then-may_join).value

pub returns-then-may_join-clause-joining : goal.returns-then-may_join-clause-joining
returns-then-may_join-clause-joining c =
    let at = goal.at.returns-then-may_join-clause-joining c in
    let joined = c.join_up.ensures in
    record {
      partition = joined.partition;
      stitches = joined.stitches;
      same = joined.same;
      grown = joined_grow (upon at.Else-upper-y) (joinable at.Then-may_join) joined.joined;
    }

pub returns-then-may_join-clause-goes : goal.returns-then-may_join-clause-goes
returns-then-may_join-clause-goes c =
    let at = goal.at.returns-then-may_join-clause-goes c in
    upper_goes (upon at.Else-upper-y) (joinable at.Then-may_join) c.join_up.ensures.joined

pub returns-then-may_join-clause-tall : goal.returns-then-may_join-clause-tall
returns-then-may_join-clause-tall c =
    let at = goal.at.returns-then-may_join-clause-tall c in
    λ x mine.
    let begin = begins at.Else-upper-y in
    let stack = upon at.Else-upper-y in
    let alike = joinable at.Then-may_join in
    let covers = mine.covers in
    joined_tall stack alike c.join_up.ensures.joined x (c.args.y -ℤ pos 1) c.join_up.ensures.partition
    (omega (arith, ints)) (omega (arith, ints)) (omega (arith, ints))

pub returns-clause-joining : goal.returns-clause-joining
returns-clause-joining c = record { partition = c.requires.partition; stitches = c.requires.stitches; same = λ s. refl; grown = grown_self c.args.store.now }

pub returns-clause-tall : goal.returns-clause-tall
returns-clause-tall c =
    let at = (goal.at.returns-clause-tall c).Else-upper-y in
    let begin = begins at in
    λ x mine. tall_under _ c.args.id c.get-upper.result.below x (c.args.y -ℤ pos 1) c.requires.partition c.requires.taken
    (owner_below _ _ c.get-upper.result c.requires.partition c.requires.stitches c.requires.taken c.get-upper.ensures (inside at)) (omega (arith, ints))
    (unlike_as_read _ _ _ _ _ c.get-lower.ensures c.get-upper.ensures (c.if-may_join.ensures.no refl))
    (omega (arith, ints))
