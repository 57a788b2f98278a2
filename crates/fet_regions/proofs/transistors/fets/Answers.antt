use Rattle.fet_regions.proofs.Common.{map, Vec, Global, HasTypesOf, Layout, AreLayoutTiles, IsInRegion, AreTransistors, transistor_of, Fet}
use Rattle.std.proofs.lemmas.Result.{IfOk-weaker}
use Rattle.tech_model.specs.Types.{connects}
use Rattle.layout_model.specs.RegionTiles.{AreRegions}
use Rattle.fet_regions.proofs.transistors.fets.Goals as goal

pub returns-clause-transistors : goal.returns-clause-transistors
returns-clause-transistors c =
    let raw = c.args.tech.now in
    let regions = c.args.regions.now in
    IfOk-weaker c.fets_of.result
    (λ (found : Vec Fet Global). (layout : Layout) → AreLayoutTiles layout regions.tiles → HasTypesOf raw layout
    → AreTransistors raw layout (IsInRegion regions.tiles) (map (transistor_of raw) found.items))
    (λ (found : Vec Fet Global). (layout : Layout) → AreRegions (connects raw) layout regions.tiles regions.count → HasTypesOf raw layout
    → AreTransistors raw layout (IsInRegion regions.tiles) (map (transistor_of raw) found.items))
    (λ found all layout are typed. all layout are.are_tiles typed)
    (rw (c.raw.ensures.value, c.items-tiles.ensures) at c.fets_of.ensures.transistors)
