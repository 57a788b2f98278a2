use Rattle.tree_merges.proofs.Common.{◌≡◌, ◌≤◌, ◌+◌, length, map, ap, ◌∙◌, arith, slice_index, take_all, RegionTile}
use Rattle.tree_merges.proofs.PieceMarks.{marks_by_index}
use Rattle.tree_merges.proofs.marking.marks_of_pieces.Goals as goal

pub returns : goal.returns
returns c =
    let tiles = c.args.regions.now.tiles in
    let same : c.items-tiles.result.now ≡ tiles = c.items-tiles.ensures in
    let all : length c.items-tiles.result.now ≤ c.loop-tile.tile-index = omega (arith, c.loop-tile-test.false) in
    c.loop-tile.invariant
    ∙ ap (map (λ (tile : RegionTile). slice_index c.args.marks.now (c.args.members + tile.region)))
    (take_all c.loop-tile.tile-index c.items-tiles.result.now all ∙ same)
    ∙ marks_by_index c.args.members tiles c.args.marks.now
