use Rattle.tile_plane.proofs.Common.{◌≡◌, ℤ, pos, ◌+ℤ◌, ◌-ℤ◌, w64, to_z, of_z, refl, ◌∙◌, ap, subst, arith, ints, by_lt_z, to_z-of_z, Rect, Tile}
use Rattle.tile_plane.proofs.Common.{tile_at, Owns, square_at, IsTallAt, AreJoining}
use Rattle.tile_plane.proofs.TileLaws.{owner_taken}
use Rattle.tile_plane.proofs.SideLaws.{beside_above}
use Rattle.tile_plane.proofs.WalkLaws.{extent_falls}
use Rattle.tile_plane.proofs.KeepLaws.{IsTallBelow, grown_self, grown_then, tall_kept, tall_begins, tall_on, tall_joined}
use Rattle.tile_plane.proofs.StackLaws.{IsUpon, joinable_as_read, unlike_as_read, joined_grow}
use Rattle.tile_plane.proofs.joins.join_column.Goals as goal
use Rattle.tile_plane.proofs.joins.join_column.Goals.{After-above_at-next}

-- the next tile has the square of the column where this one ends
owns : (c : After-above_at-next) → Owns c.column.store c.above_at-next.result
    (square_at (to_z w64 (of_z w64 c.args.x)) (tile_at c.column.store c.column.id).area.yhi)
owns c =
    let same_x : to_z w64 (of_z w64 c.args.x) ≡ c.args.x = to_z-of_z w64 c.args.x c.ranges.x in
    let same_top : to_z w64 (of_z w64 c.args.yhi) ≡ c.args.yhi = to_z-of_z w64 c.args.yhi c.ranges.yhi in
    let edge = ap (λ (t : Tile). t.area.yhi) c.get.ensures in
    let taken = c.column.invariant.below.taken in
    let within = c.column.invariant.joining.partition.within c.column.id taken in
    let proper = taken.proper in
    c.above_at-next.ensures (omega (arith, ints))

upon : (c : After-above_at-next) → IsUpon c.column.store c.column.id c.above_at-next.result
upon c =
    let below = c.column.invariant.below in
    record {
      taken = below.taken;
      other_taken = owner_taken _ _ _ (owns c);
      meet = beside_above _ _ _ (to_z w64 (of_z w64 c.args.x)) c.column.invariant.joining.partition below.taken below.low below.high (owns c);
    }

pub join_below-id-requires-clause-taken : goal.join_below-id-requires-clause-taken
join_below-id-requires-clause-taken c = owner_taken _ _ _ c.find-first.ensures

pub join_below-id-requires-clause-from : goal.join_below-id-requires-clause-from
join_below-id-requires-clause-from c =
    let same : to_z w64 (of_z w64 c.args.ylo) ≡ c.args.ylo = to_z-of_z w64 c.args.ylo c.ranges.ylo in
    omega (arith, ints)

pub join_below-id-requires-clause-to : goal.join_below-id-requires-clause-to
join_below-id-requires-clause-to c =
    let same : to_z w64 (of_z w64 c.args.ylo) ≡ c.args.ylo = to_z-of_z w64 c.args.ylo c.ranges.ylo in
    omega (arith, ints)

pub column-init : goal.column-init
column-init c =
    let x = to_z w64 (of_z w64 c.args.x) in
    let y = to_z w64 (of_z w64 c.args.ylo) in
    let same_y : y ≡ c.args.ylo = to_z-of_z w64 c.args.ylo c.ranges.ylo in
    let new = c.join_below-id.new.store in
    let id = c.join_below-id.result in
    let owns : Owns c.args.store.now c.find-first.result (square_at x y) = c.find-first.ensures in
    let goes : Owns new id (square_at x y) = c.join_below-id.ensures.goes (square_at x y) owns in
    let joining : AreJoining c.args.store.now new = c.join_below-id.ensures.joining in
    let tall : IsTallAt new x (y -ℤ pos 1) = c.join_below-id.ensures.tall x owns in
    record {
      joining = record { partition = joining.partition; stitches = joining.stitches; same = λ s. refl; grown = grown_self new };
      below = tall_begins new x y (y -ℤ pos 1) id (omega (arith, ints)) joining.partition goes tall;
    }

pub get-upper-requires : goal.get-upper-requires
get-upper-requires c = (upon (goal.at.get-upper-requires c).After-above_at-next).other_taken

pub join_up-requires-clause-other_taken : goal.join_up-requires-clause-other_taken
join_up-requires-clause-other_taken c = (upon (goal.at.join_up-requires-clause-other_taken c).After-above_at-next).other_taken

pub join_up-requires-clause-meet : goal.join_up-requires-clause-meet
join_up-requires-clause-meet c = (upon (goal.at.join_up-requires-clause-meet c).After-above_at-next).meet

pub column-preserved-then-may_join : goal.column-preserved-then-may_join
column-preserved-then-may_join c =
    let stack = upon (goal.at.column-preserved-then-may_join c).After-above_at-next in
    let joining = c.column.invariant.joining in
    let alike = joinable_as_read c.column.store c.column.id c.above_at-next.result _ _ c.get-lower.ensures c.get-upper.ensures
    (c.if-may_join.ensures.yes refl) in
    let joined = c.join_up.ensures in
    let grow = joined_grow stack alike joined.joined in
    record {
      joining = record {
        partition = joined.partition;
        stitches = joined.stitches;
        same = λ s. joined.same s ∙ joining.same s;
        grown = grown_then c.join_below-id.new.store c.column.store c.join_up.new.store joining.grown grow;
      };
      below = tall_joined _ _ _ _ _ _ joined.partition grow c.column.invariant.below stack.other_taken stack.meet joined.joined;
    }

pub column-smaller-then-may_join : goal.column-smaller-then-may_join
column-smaller-then-may_join c =
    let stack = upon (goal.at.column-smaller-then-may_join c).After-above_at-next in
    let proper = stack.other_taken.proper in
    let meet = stack.meet in
    let is = ap (λ (r : Rect). r.yhi) c.join_up.ensures.joined.whole in
    let edge = ap (λ (t : Tile). t.area.yhi) c.get.ensures in
    extent_falls (tile_at c.column.store c.column.id).area.yhi (tile_at c.join_up.new.store c.column.id).area.yhi (to_z w64 (of_z w64 c.args.yhi))
    (omega (arith, ints)) (omega (arith, ints))

pub column-smaller : goal.column-smaller
column-smaller c =
    let stack = upon (goal.at.column-smaller c).After-above_at-next in
    let proper = stack.other_taken.proper in
    let meet = stack.meet in
    let edge = ap (λ (t : Tile). t.area.yhi) c.get.ensures in
    extent_falls (tile_at c.column.store c.column.id).area.yhi (tile_at c.column.store c.above_at-next.result).area.yhi (to_z w64 (of_z w64 c.args.yhi))
    (omega (arith, ints)) (omega (arith, ints))

pub column-preserved : goal.column-preserved
column-preserved c =
    let at = (goal.at.column-preserved c).After-above_at-next in
    record {
      joining = c.column.invariant.joining;
      below = tall_on _ _ _ _ _ c.column.invariant.joining.partition c.column.invariant.below (owns at) (upon at).meet
          (unlike_as_read _ _ _ _ _ c.get-lower.ensures c.get-upper.ensures (c.if-may_join.ensures.no refl));
    }

pub join_above-requires-clause-reach : goal.join_above-requires-clause-reach
join_above-requires-clause-reach c =
    let same_top : to_z w64 (of_z w64 c.args.yhi) ≡ c.args.yhi = to_z-of_z w64 c.args.yhi c.ranges.yhi in
    let edge = ap (λ (t : Tile). t.area.yhi) c.get.ensures in
    omega (arith, ints)

pub returns : goal.returns
returns c =
    let x = to_z w64 (of_z w64 c.args.x) in
    let at = to_z w64 (of_z w64 c.args.yhi) in
    let same_x : x ≡ c.args.x = to_z-of_z w64 c.args.x c.ranges.x in
    let same_y : to_z w64 (of_z w64 c.args.ylo) ≡ c.args.ylo = to_z-of_z w64 c.args.ylo c.ranges.ylo in
    let same_top : at ≡ c.args.yhi = to_z-of_z w64 c.args.yhi c.ranges.yhi in
    let edge = ap (λ (t : Tile). t.area.yhi) c.get.ensures in
    let tiles = c.column.store in
    let id = c.column.id in
    let joining : AreJoining c.join_below-id.new.store tiles = c.column.invariant.joining in
    let below : IsTallBelow tiles x (to_z w64 (of_z w64 c.args.ylo) -ℤ pos 1) id = c.column.invariant.below in
    let new = c.join_above.new.store in
    let first : AreJoining c.args.store.now c.join_below-id.new.store = c.join_below-id.ensures.joining in
    let last : AreJoining tiles new = c.join_above.ensures.joining in
    record {
      partition = last.partition;
      stitches = last.stitches;
      taken = c.join_above.ensures.taken;
      same = λ s. last.same s ∙ joining.same s ∙ first.same s;
      grown = grown_then c.args.store.now tiles new (grown_then c.args.store.now c.join_below-id.new.store tiles first.grown joining.grown) last.grown;
      tall = λ y p q. subst (λ (v : ℤ). IsTallAt new v y) same_x (by_lt_z (y +ℤ pos 1) (tile_at tiles id).area.yhi
          (λ less. tall_kept tiles new x y last.partition last.grown (below.done y (omega (arith, ints)) less))
          (λ ends.
          let proper = below.taken.proper in
          let low = below.low in
          let high = below.high in
          let here : at -ℤ pos 1 ≡ y = omega (arith, ints) in
          subst (λ (v : ℤ). IsTallAt new x v) here (c.join_above.ensures.tall (omega (arith, ints)) x (omega (arith, ints)))));
    }
