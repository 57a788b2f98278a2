use Rattle.names.proofs.Common.{◌<◌, List, length, sym, subst, Vec, Global, All, IfOk-weaker, In, RegionTile, AreFirstTiles}
use Rattle.std.proofs.lemmas.List.Sorted.{All-permutation}
use Rattle.names.proofs.FirstTileLaws.{firsts_moved}
use Rattle.names.proofs.first_tiles.first_tiles.Goals as goal

pub first_of_classes-requires-clause-regions : goal.first_of_classes-requires-clause-regions
first_of_classes-requires-clause-regions c =
    let InRange = λ (tile : RegionTile). tile.region < length c.args.classes.now in
    subst (All InRange) (sym c.as_slice.ensures.value)
    (All-permutation InRange c.args.tiles.now c.in_ok-sorted.sorted.items c.in_ok-sorted.ensures.moved c.requires.regions)

pub returns : goal.returns
returns c =
    let classes = c.args.classes.now in
    let tiles = c.args.tiles.now in
    let sorted = c.in_ok-sorted.sorted.items in
    IfOk-weaker c.first_of_classes.result (λ (v : Vec RegionTile Global). AreFirstTiles classes (λ tile. In tile c.as_slice.result.now) v.items)
    (λ v. AreFirstTiles classes (λ tile. In tile tiles) v.items)
    (λ v are. firsts_moved classes tiles sorted v.items c.in_ok-sorted.ensures.moved
    (subst (λ (s : List RegionTile). AreFirstTiles classes (λ tile. In tile s) v.items) c.as_slice.ensures.value are))
    c.first_of_classes.ensures
