use Rattle.fet_regions.proofs.Common.{get, key_cmp}
use Rattle.fet_regions.proofs.FetLaws.{found_more}
use Rattle.fet_regions.proofs.transistors.fets_at.Goals as goal

pub loop-place-preserved : goal.loop-place-preserved
loop-place-preserved c =
    found_more c.args.tiles.now c.args.labels.now c.args.sizes.now (get key_cmp c.args.lengths.now) c.args.lowest.now c.loop-place.place-index
    c.loop-place.found.items c.push.new.self.items c.in_ok-fet_at.field-0 c.loop-place-test.true c.loop-place.invariant c.in_ok-fet_at.ensures
    c.in_ok-push.ensures.items
