-- The tiles that are gathered are those of what is seen.
use Rattle.flood_nodes.proofs.Common.{◌≤◌, List, sym, subst, AllPairs, Layout, seen_in, AreLayoutTiles, AreRegions, RegionTile}
use Rattle.std.proofs.lemmas.Result.{IfOk-weaker}
use Rattle.tech_model.specs.Types.{connects}
use Rattle.flood_nodes.proofs.flooding.regions.Goals as goal

pub regions_of_tiles-requires-clause-by_plane : goal.regions_of_tiles-requires-clause-by_plane
regions_of_tiles-requires-clause-by_plane g c =
    subst (λ (v : List RegionTile). AllPairs (λ (a b : RegionTile). a.plane ≤ b.plane) v) (sym c.as_slice.ensures.value) c.in_ok-tiles.ensures.by_plane

pub returns : goal.returns
returns g c =
    let layout = seen_in c.args.area (g.Y.Layers.kind c.args.layers.now) in
    let are = subst (AreLayoutTiles layout) (sym c.as_slice.ensures.value) c.in_ok-tiles.ensures.tiles in
    IfOk-weaker c.regions_of_tiles.result
    (λ found. (layout : Layout) → AreLayoutTiles layout c.as_slice.result.now → AreRegions (connects c.args.tech.now) layout found.tiles found.count)
    (λ found. AreRegions (connects c.args.tech.now) layout found.tiles found.count) (λ found regions. regions layout are) c.regions_of_tiles.ensures.regions
