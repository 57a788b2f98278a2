use Rattle.tree_merges.proofs.Common.{ℕ, List, map, subst, arith, take_all, slice_index, AddsPairs}
use Rattle.tree_merges.proofs.JoinLaws.{Pair, adds_next}
use Rattle.tree_merges.proofs.marking.join_members.Goals as goal

pub loop-tile-preserved : goal.loop-tile-preserved
loop-tile-preserved c = record {
  len = omega (arith, c.join.ensures.len, c.loop-tile.invariant.len);
  joined =
      adds_next {X = ℕ} (λ tile. (slice_index c.args.numbers.now tile, c.args.region)) c.args.tiles.now c.loop-tile.tile-index 0
      c.args.classes.now c.loop-tile.classes c.join.new.self c.loop-tile-test.true c.loop-tile.invariant.joined c.join.ensures.divides;
}

pub returns-clause-joined : goal.returns-clause-joined
returns-clause-joined c =
    subst (λ (tiles : List ℕ). AddsPairs c.args.classes.now c.loop-tile.classes
    (map {B = Pair} (λ tile. (slice_index c.args.numbers.now tile, c.args.region)) tiles))
    (take_all c.loop-tile.tile-index c.args.tiles.now (omega arith)) c.loop-tile.invariant.joined
