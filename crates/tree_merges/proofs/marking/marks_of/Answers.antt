use Rattle.tree_merges.proofs.Common.{◌≡◌, ◌<◌, ◌+◌, ℕ, List, length, get_or, map, ap, subst, refl, sym, ◌∙◌, arith, slice_index, take_all, Divides}
use Rattle.tree_merges.proofs.Common.{IsPair, RegionTile, regions_of, no_tile, PlaneStack, region_position, AddsPairs, pairs_from}
use Rattle.tree_merges.proofs.JoinLaws.{Pair, joined_pairs, joins_next}
use Rattle.tree_merges.proofs.PieceMarks.{region_at}
use Rattle.tree_merges.proofs.marking.marks_of.Goals as goal

pub loop-index-preserved : goal.loop-index-preserved
loop-index-preserved c =
    let stacks = c.args.pieces.now in
    let numbers = c.args.members.now.numbers.items in
    let tiles = c.args.regions.now.tiles in
    let names = length c.args.members.now.names.items in
    let index = c.loop-index.index in
    let piece = c.index-pieces-index.result in
    let region = c.len-names.result + (get_or c.items-tiles.result.now index no_tile).region in
    let long : length c.args.pieces.now ≡ length stacks = ap length refl in
    let below : index < length stacks = omega (arith, long, c.loop-index-test.true) in
    let is : piece ≡ get_or stacks index piece =
    c.index-pieces-index.is ∙ ap (λ (all : List PlaneStack). get_or all index piece) refl in
    let same_tiles : c.items-tiles.result.now ≡ tiles = c.items-tiles.ensures in
    let is_region : region ≡ region_position names tiles index =
    (let inside : index < length tiles = omega (arith, below, c.requires.one_each) in
    let same : (get_or c.items-tiles.result.now index no_tile).region ≡ slice_index (regions_of tiles) index =
    ap (λ (all : List RegionTile). (get_or all index no_tile).region) same_tiles ∙ sym (region_at tiles index inside) in
    omega (arith, same, c.len-names.ensures)) in
    let joined : AddsPairs c.loop-index.classes c.join_members.new.classes
    (map (λ tile. (slice_index c.as_slice.result.now tile, region)) c.items.result.now) = c.join_members.ensures.joined in
    let told : AddsPairs c.loop-index.classes c.join_members.new.classes
    (map (λ tile. (slice_index numbers tile, region)) piece.stack.members) =
    subst (λ (all : List ℕ). AddsPairs c.loop-index.classes c.join_members.new.classes
    (map {B = Pair} (λ tile. (slice_index numbers tile, region)) all)) c.items.ensures
    (subst (λ (all : List ℕ). AddsPairs c.loop-index.classes c.join_members.new.classes
    (map {B = Pair} (λ tile. (slice_index all tile, region)) c.items.result.now)) c.as_slice.ensures.value joined) in
    record {
      long = omega (arith, c.join_members.ensures.len, c.loop-index.invariant.long);
      divides = joins_next numbers names tiles stacks index piece region c.loop-index.classes c.join_members.new.classes below is is_region
          c.loop-index.invariant.divides told;
    }

pub returns-clause-marks : goal.returns-clause-marks
returns-clause-marks c = record {
  long = omega (arith, c.into_labels.ensures.len, c.loop-index.invariant.long);
  divides = c.into_labels.ensures.divides _
      (subst (λ (stacks : List PlaneStack). Divides c.loop-index.classes (IsPair (joined_pairs (length c.args.members.now.names.items)
      c.args.regions.now.tiles (pairs_from c.args.members.now.numbers.items 0 stacks))))
      (take_all c.loop-index.index c.args.pieces.now
      (let long : length c.args.pieces.now ≡ length c.args.pieces.now = ap length refl in
      omega (arith, long, c.loop-index-test.false)))
      c.loop-index.invariant.divides);
}
