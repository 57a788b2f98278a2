-- The node that an opened cell has at a place.
use Rattle.tile_members.proofs.Common.{◌≡◌, ◌<◌, ℕ, List, [], ◌∷◌, length, get_or, refl, sym, subst, ◌∙◌, arith, nat_eq, slice_index, get}
use Rattle.tile_members.proofs.Common.{slice_get-get_or, slice_get_within, All-slice_get, Square, corner_of, image, inverted, NodeRec, RegionTile}
use Rattle.tile_members.proofs.Common.{IsMaterial, Place, place_back, PartTile, LibraryParts, seen, LibraryView, view_at, OpenedCell, OpenedCells}
use Rattle.tile_members.proofs.Common.{AreOpened, HasOpenNode, IsNumberAt, corner_place}
use Rattle.std.specs.Prelude.{Some}
use Rattle.finite_sets.proofs.Chains.{Chain-append}
use Rattle.finite_sets.proofs.Leasts.{IsLeast-iff}
use Rattle.layout_model.specs.Places.{IsNoLater}
use Rattle.layout_model.specs.RegionTiles.{IsInRegion}
use Rattle.group_meetings.specs.Names.NamedNodes.{AreOneNamedNode}
use Rattle.group_meetings.proofs.CellNodes.NodePlaces.{AreOneNamedNode-sym}
use Rattle.element_paths.proofs.LibraryTrees.OwnRecordLaws.PreferredNames.{preferred_is_first}
use Rattle.tile_members.specs.steps.OpenedCells.{HasNodeAt, HasOwnCorner, HasTileAt, IsOpened}

-- the number of a tile at a place with material is that of the node there
pub node_found : (view : LibraryView) (cell : ℕ) (opened : OpenedCell) (place : Place) (number : ℕ) → IsOpened view cell opened
    → IsMaterial (view_at view cell).own place → IsNumberAt opened place number → HasNodeAt view cell opened place number
node_found view cell opened place number is material at =
    let layout = (view_at view cell).own in
    let labels = (view_at view cell).labels in
    let nodes = opened.found.nodes in
    let numbers = opened.found.numbers.items in
    let tile = at.lies.tile in
    let region = tile.region in
    let low : region < length numbers =
    All-slice_get (λ (t : RegionTile). t.region < length numbers) opened.found.regions.tiles at.index tile is.searchable.numbered at.lies.there in
    let here : slice_index numbers region < length nodes = is.nodes.numbered region 0 low in
    let below : number < length nodes = subst (λ (n : ℕ). n < length nodes) (sym at.is) here in
    let origin = place in
    let leasts = is.nodes.records.leasts in
    let least = get_or leasts number origin in
    let in_region : IsInRegion opened.found.regions.tiles region place = record { index = at.index; lies = at.lies; numbered = refl } in
    let N : Place → Place → Type 0 = AreOneNamedNode view.tech layout labels in
    let within : N least place =
    subst (λ (n : ℕ). N (get_or leasts n origin) place) (sym at.is) (is.nodes.places region place origin in_region) in
    let some : NodeRec = first_of nodes number below in
    let node = get_or nodes number some in
    let recorded = is.nodes.records.sound number origin some below in
    let back = AreOneNamedNode-sym view.tech layout labels within in
    record {
      node = node;
      there = slice_get-get_or nodes number some below;
      is = record {
        material = material;
        least = least;
        is_least = IsLeast-iff IsNoLater (N least) (N place) (λ x there. Chain-append back there) (λ x there. Chain-append within there) least
            recorded.is_least;
        first = preferred_is_first view.tech layout labels least node recorded;
      };
    }
  where
    first_of : (nodes : List NodeRec) (number : ℕ) → number < length nodes → NodeRec
    first_of [] number below = absurd (omega arith)
    first_of (node ∷ nodes) number below = node

-- an opened cell has a tile at the corner of a tile
pub opened_there : (library : LibraryParts) (tile : PartTile) (of : OpenedCell) (square : Square) → HasOwnCorner library tile
    → IsOpened (seen library) tile.of.0 of → square ≡ image (inverted tile.to_cell) (corner_of tile.area)
    → HasTileAt of (record { plane = tile.plane; square = square })
opened_there library tile of square corner is same =
    subst (λ (s : Square). HasTileAt of (record { plane = tile.plane; square = s })) (sym same)
    (is.tiles.every (place_back tile.to_cell (corner_place tile)) corner.material)

-- and the number that it has there is that of a node
pub opened_node : (library : LibraryParts) (opened : OpenedCells) (tile : PartTile) (of : OpenedCell) (square : Square) (number : ℕ)
    → HasOwnCorner library tile → AreOpened (seen library) opened → get nat_eq opened.entries tile.of.0 ≡ Some of
    → square ≡ image (inverted tile.to_cell) (corner_of tile.area) → IsNumberAt of (record { plane = tile.plane; square = square }) number
    → HasOpenNode library opened tile number
opened_node library opened tile of square number corner are is_open same at = record {
  of = of;
  is_open = is_open;
  has = node_found (seen library) tile.of.0 of (place_back tile.to_cell (corner_place tile)) number (are tile.of.0 of is_open) corner.material
      (subst (λ (s : Square). IsNumberAt of (record { plane = tile.plane; square = s }) number) same at);
}

-- the number is one of the cell's
pub node_below : (library : LibraryParts) (opened : OpenedCells) (tile : PartTile) (of : OpenedCell) (number : ℕ)
    → get nat_eq opened.entries tile.of.0 ≡ Some of → HasOpenNode library opened tile number → number < length of.found.nodes
node_below library opened tile of number is_open held =
    let one : Some held.of ≡ Some of = sym held.is_open ∙ is_open in
    let same : held.of ≡ of = cc in
    subst (λ (o : OpenedCell). number < length o.found.nodes) same
    (slice_get_within held.of.found.nodes number held.has.node held.has.there)
