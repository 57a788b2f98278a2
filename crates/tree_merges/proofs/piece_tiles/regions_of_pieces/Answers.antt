use Rattle.tree_merges.proofs.Common.{◌≡◌, ◌≤◌, ℕ, List, sym, subst, ◌∙◌, All, AllPairs, IsNear, IsProper, RegionTile, tiles_of}
use Rattle.layout_model.specs.RegionTiles.{AreLayoutTiles, LieApart}
use Rattle.flood_nodes.specs.Renumbered.{AreRenumbered}
use Rattle.piece_groups.specs.MeetingSums.LowerMeetingLaws.PartLayouts.{parts_layout}
use Rattle.tree_merges.proofs.PieceTiles.{tiles_are_spread, tiles_by_plane}
use Rattle.tree_merges.proofs.piece_tiles.regions_of_pieces.Goals as goal

pub regions_of_tiles-requires-clause-proper : goal.regions_of_tiles-requires-clause-proper
regions_of_tiles-requires-clause-proper c =
    let are : c.as_slice.result.now ≡ tiles_of c.args.stacks.now = c.as_slice.ensures.value ∙ c.in_ok-tiles.ensures in
    subst (λ (tiles : List RegionTile). All (λ tile. IsProper tile.area) tiles) (sym are)
    (tiles_are_spread c.args.tech.now c.requires.parts c.args.stacks.now c.requires.are).proper

pub regions_of_tiles-requires-clause-near : goal.regions_of_tiles-requires-clause-near
regions_of_tiles-requires-clause-near c =
    let are : c.as_slice.result.now ≡ tiles_of c.args.stacks.now = c.as_slice.ensures.value ∙ c.in_ok-tiles.ensures in
    subst (λ (tiles : List RegionTile). All (λ tile. IsNear tile.area) tiles) (sym are)
    (tiles_are_spread c.args.tech.now c.requires.parts c.args.stacks.now c.requires.are).near

pub regions_of_tiles-requires-clause-apart : goal.regions_of_tiles-requires-clause-apart
regions_of_tiles-requires-clause-apart c =
    let are : c.as_slice.result.now ≡ tiles_of c.args.stacks.now = c.as_slice.ensures.value ∙ c.in_ok-tiles.ensures in
    subst (λ (tiles : List RegionTile). AllPairs LieApart tiles) (sym are)
    (tiles_are_spread c.args.tech.now c.requires.parts c.args.stacks.now c.requires.are).apart

pub regions_of_tiles-requires-clause-by_plane : goal.regions_of_tiles-requires-clause-by_plane
regions_of_tiles-requires-clause-by_plane c =
    let are : c.as_slice.result.now ≡ tiles_of c.args.stacks.now = c.as_slice.ensures.value ∙ c.in_ok-tiles.ensures in
    subst (λ (tiles : List RegionTile). AllPairs (λ a b. a.plane ≤ b.plane) tiles) (sym are) (tiles_by_plane c.args.stacks.now c.requires.by_plane)

pub returns : goal.returns
returns c =
    let are : c.as_slice.result.now ≡ tiles_of c.args.stacks.now = c.as_slice.ensures.value ∙ c.in_ok-tiles.ensures in
    let same = subst (λ (tiles : List RegionTile). (labels : List ℕ) × AreRenumbered tiles labels c.in_ok-regions.regions.tiles) are
    c.in_ok-regions.ensures.same in
    record {
      labels = same.0;
      same = same.1;
      are = λ parts stacks. c.in_ok-regions.ensures.regions (parts_layout c.args.tech.now parts)
          (subst (AreLayoutTiles (parts_layout c.args.tech.now parts)) (sym are)
          (c.stacks_are_layout_tiles.ensures parts c.args.stacks.now stacks c.requires.typed));
    }
