use Rattle.tile_plane.proofs.Common.{ℕ, subst, arith, ints, tile_at, IsLaid}
use Rattle.tile_plane.proofs.TileLaws.{owner_taken}
use Rattle.tile_plane.proofs.FillLaws.{to_join_right, taken_right}
use Rattle.tile_plane.proofs.pieces.take_right.Goals as goal

pub right_of-next-requires-clause-from : goal.right_of-next-requires-clause-from
right_of-next-requires-clause-from c = let l = c.requires.of_band.low in omega (arith, ints)

pub set_part-requires-clause-taken : goal.set_part-requires-clause-taken
set_part-requires-clause-taken c = owner_taken c.args.store.now c.right_of-next.result _ c.right_of-next.ensures

pub join_right-requires : goal.join_right-requires
join_right-requires c =
    let made = c.in_ok-part.ensures in
    let both = to_join_right c.args.band.now c.args.id c.right_of-next.result c.in_ok-part.part c.args.store.now c.set_part.new.store c.requires.partition
    c.requires.taken c.requires.of_band
    (c.requires.reach c.right_of-next.result c.right_of-next.ensures) made.laid c.right_of-next.ensures in
    record {
      partition = made.partition;
      stitches = made.stitches;
      taken = both.left_taken;
      other_taken = both.right_taken;
      meet = both.meet;
      low = both.low;
      high = both.high;
      value = both.value;
    }

pub returns-clause-laid : goal.returns-clause-laid
returns-clause-laid c = λ k owns.
    let old = c.args.store.now in
    let next = c.right_of-next.result in
    let made = c.in_ok-part.ensures in
    let laid = taken_right c.args.band.now c.args.id next c.in_ok-part.part old c.set_part.new.store c.requires.partition c.requires.taken c.requires.of_band
    (c.requires.reach next c.right_of-next.ensures) made.laid c.right_of-next.ensures c.join_right.new.store c.join_right.ensures.joined in
    subst (λ (v : ℕ). IsLaid (record (tile_at old c.args.id).area { xhi = (tile_at old v).area.xhi }) c.args.band.now.value c.args.id old
    c.join_right.new.store) (c.requires.partition.one next k _ c.right_of-next.ensures owns) laid
