use Rattle.tile_plane.proofs.Common.{inr, ℕ, refl, sym, ◌∙◌, ap, subst, arith, ints, Tile, tile_at, IsLaidLeft}
use Rattle.tile_plane.proofs.TileLaws.{owner_taken}
use Rattle.tile_plane.proofs.FillLaws.{none_left, to_join_left, taken_left}
use Rattle.tile_plane.proofs.pieces.join_left_of.Goals as goal

pub left_of-left-requires-clause-from : goal.left_of-left-requires-clause-from
left_of-left-requires-clause-from c = let l = c.requires.of_band.low in omega (arith, ints)

pub get-requires : goal.get-requires
get-requires c = owner_taken c.args.store.now c.left_of-left.result _ c.left_of-left.ensures

pub returns-then-get-band-clause-laid : goal.returns-then-get-band-clause-laid
returns-then-get-band-clause-laid c = λ k owns.
    let tiles = c.args.store.now in
    let value = ap (λ (t : Tile). t.value) c.get.ensures in
    subst (λ (v : ℕ). IsLaidLeft c.args.band.now (tile_at tiles c.args.id) (tile_at tiles v) c.args.id tiles tiles)
    (c.requires.partition.one c.left_of-left.result k _ c.left_of-left.ensures owns)
    (none_left c.args.band.now c.args.id c.left_of-left.result tiles c.requires.of_band (λ same. c.if-get-band.true (value ∙ same)))

pub set_part-requires-clause-taken : goal.set_part-requires-clause-taken
set_part-requires-clause-taken c = owner_taken c.args.store.now c.left_of-left.result _ c.left_of-left.ensures

pub join_right-requires : goal.join_right-requires
join_right-requires c =
    let made = c.in_ok-part.ensures in
    let both = to_join_left c.args.band.now c.args.id c.left_of-left.result c.in_ok-part.part c.args.store.now c.set_part.new.store c.requires.partition
    c.requires.taken c.requires.of_band
    (c.requires.reach c.left_of-left.result c.left_of-left.ensures) made.laid c.left_of-left.ensures in
    record {
      partition = made.partition;
      stitches = made.stitches;
      taken = both.left_taken;
      other_taken = both.right_taken;
      meet = both.meet;
      low = both.low;
      high = both.high;
      value = both.value;
    }

pub returns-clause-laid : goal.returns-clause-laid
returns-clause-laid c = λ k owns.
    let old = c.args.store.now in
    let new = c.join_right.new.store in
    let left = c.left_of-left.result in
    let value = ap (λ (t : Tile). t.value) c.get.ensures in
    let laid = taken_left c.args.band.now c.args.id left c.in_ok-part.part old c.set_part.new.store c.requires.partition c.requires.taken c.requires.of_band
    (c.requires.reach left c.left_of-left.ensures) c.in_ok-part.ensures.laid c.left_of-left.ensures new c.join_right.ensures.joined in
    subst (λ (v : ℕ). IsLaidLeft c.args.band.now (tile_at old c.args.id) (tile_at old v) c.in_ok-part.part old new)
    (c.requires.partition.one left k _ c.left_of-left.ensures owns)
    ((tile_at old left).area.xlo, inr (refl, sym value ∙ c.if-get-band.false), laid)
