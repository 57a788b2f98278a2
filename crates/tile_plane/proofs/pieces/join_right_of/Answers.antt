use Rattle.tile_plane.proofs.Common.{inr, ℕ, refl, sym, ◌∙◌, ap, subst, arith, ints, Tile, tile_at, IsLaidRight}
use Rattle.tile_plane.proofs.TileLaws.{owner_taken}
use Rattle.tile_plane.proofs.FillLaws.{none_right}
use Rattle.tile_plane.proofs.pieces.join_right_of.Goals as goal

pub right_of-right-requires-clause-from : goal.right_of-right-requires-clause-from
right_of-right-requires-clause-from c = let l = c.requires.of_band.low in omega (arith, ints)

pub get-requires : goal.get-requires
get-requires c = owner_taken c.args.store.now c.right_of-right.result _ c.right_of-right.ensures

pub returns-in_ok-take_right-clause-laid : goal.returns-in_ok-take_right-clause-laid
returns-in_ok-take_right-clause-laid c = λ k owns.
    let old = c.args.store.now in
    let right = c.right_of-right.result in
    let value = ap (λ (t : Tile). t.value) c.get.ensures in
    subst (λ (v : ℕ). IsLaidRight c.args.band.now (tile_at old c.args.id) (tile_at old v) c.args.id old c.take_right.new.store)
    (c.requires.partition.one right k _ c.right_of-right.ensures owns)
    ((tile_at old right).area.xhi, inr (refl, sym value ∙ c.if-get-band.true), c.in_ok-take_right.ensures.laid right c.right_of-right.ensures)

pub returns-else-get-band-clause-laid : goal.returns-else-get-band-clause-laid
returns-else-get-band-clause-laid c = λ k owns.
    let tiles = c.args.store.now in
    let value = ap (λ (t : Tile). t.value) c.get.ensures in
    subst (λ (v : ℕ). IsLaidRight c.args.band.now (tile_at tiles c.args.id) (tile_at tiles v) c.args.id tiles tiles)
    (c.requires.partition.one c.right_of-right.result k _ c.right_of-right.ensures owns)
    (none_right c.args.band.now c.args.id c.right_of-right.result tiles c.requires.of_band (λ same. c.if-get-band.false (value ∙ same)))
