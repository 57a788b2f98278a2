-- What is asked of tiles, for callers.
use Rattle.names.proofs.Common.{List, IsTrue, All, Rect, RawTech, is_type, AreLayoutTiles, RegionTile}
use Rattle.layout_model.specs.LayerTypes.{Kinds, AreTypesOf, seen_in}
use Rattle.flood_nodes.proofs.GatherLaws.{gathered_typed}

-- the types of the tiles of what is seen of layers are the technology's
pub seen_typed : (raw : RawTech) (area : Rect) (kinds : Kinds) (tiles : List RegionTile) → AreTypesOf raw kinds → AreLayoutTiles (seen_in area kinds) tiles
    → All (λ (tile : RegionTile). IsTrue (is_type raw tile.kind.0)) tiles
seen_typed raw area kinds tiles types are k d less = (gathered_typed raw area kinds tiles types are k d less).0
