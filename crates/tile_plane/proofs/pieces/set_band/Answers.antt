use Rattle.tile_plane.proofs.FillLaws.{left_reach, whole_taken, whole_of_band, right_inside, right_reach, band_is_laid}
use Rattle.tile_plane.proofs.pieces.set_band.Goals as goal

pub join_left_of-requires-clause-reach : goal.join_left_of-requires-clause-reach
join_left_of-requires-clause-reach c =
    left_reach c.args.band.now c.in_ok-id.id c.args.store.now c.fill_band.new.store c.requires.partition c.in_ok-id.ensures.partition c.requires.proper
    c.requires.near c.requires.free c.in_ok-id.ensures.laid

pub join_right_of-requires : goal.join_right_of-requires
join_right_of-requires c =
    let old = c.args.store.now in
    let one = c.fill_band.new.store in
    let two = c.join_left_of.new.store in
    let band = c.args.band.now in
    let id = c.in_ok-id.id in
    let whole = c.in_ok-whole.whole in
    let know = c.requires in
    let filled = c.in_ok-id.ensures in
    let left = c.in_ok-whole.ensures in
    record {
      partition = left.partition;
      stitches = left.stitches;
      taken = whole_taken band id old one know.partition filled.partition know.proper know.near know.free filled.laid whole two left.partition left.laid;
      of_band = whole_of_band band id old one know.partition filled.partition know.proper know.near know.free filled.laid whole two left.partition left.laid;
      inside = right_inside band id old one know.partition filled.partition know.proper know.near know.free filled.laid whole two left.partition left.laid;
      reach = right_reach band id old one know.partition filled.partition know.proper know.near know.free filled.laid whole two left.partition left.laid;
    }

pub returns-clause-laid : goal.returns-clause-laid
returns-clause-laid c =
    let know = c.requires in
    let filled = c.in_ok-id.ensures in
    let left = c.in_ok-whole.ensures in
    band_is_laid c.args.band.now c.in_ok-id.id c.args.store.now c.fill_band.new.store know.partition filled.partition know.proper know.near know.free
    filled.laid c.in_ok-whole.whole c.join_left_of.new.store left.partition left.laid
    c.join_right_of.new.store c.in_ok-join_right_of.ensures.laid
