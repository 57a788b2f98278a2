use Rattle.measures.proofs.Common.{List, map, subst, RegionTile, Layout, AreLayoutTiles, AreMeasured, class_of}
use Rattle.std.specs.Prelude.{IfOk}
use Rattle.measures.proofs.tables.measure.Goals as goal

pub returns : goal.returns
returns c =
    subst (λ (tiles : List RegionTile). IfOk c.measure_tiles.result (λ made. (layout : Layout) → AreLayoutTiles layout tiles
    → AreMeasured (map class_of c.args.tech.now.classes) layout tiles c.args.regions.now.count (map (λ row. row.pairs) made.rows)))
    c.items-tiles.ensures c.measure_tiles.ensures
