use Rattle.offences.proofs.Common.{◌≡◌, ◌≢◌, ℕ, List, length, map, sym, subst, ap, ◌∙◌, All, None, length-map, Square, Rect, widened, common_rect}
use Rattle.offences.proofs.Common.{Covers, IsProper, IsInUnion, IsStrips, strips_same, RawTech, Kinds, SetTile, ArePartTiles, SetLayout, OffendsOn}
use Rattle.offences.proofs.Common.{HaveTypes, CoverExactly, AreTilesOfParts, tile_parts, set_layout}
use Rattle.std.proofs.lemmas.List.Elements.{All-map}
use Rattle.std.proofs.lemmas.Simd.{map-map}
use Rattle.layout_model.specs.LayerTypes.{AreTypesOf}
use Rattle.offences.proofs.LayerLaws.{grown_proper, near_before, tiles_of_parts, tiles_have_types, layers_covered}
use Rattle.offences.proofs.layers.offending.Goals as goal

-- the tiles that were found around the area
part_tiles_are : (raw seen : RawTech) (plane : ℕ) (area around : Rect) (kinds : List Kinds) (tiles : List SetTile) → seen ≡ raw → around ≡ widened area
    → ArePartTiles seen plane around kinds tiles → ArePartTiles raw plane (widened area) kinds tiles
part_tiles_are raw seen plane area around kinds tiles read grown are =
    subst (λ (r : RawTech). ArePartTiles r plane (widened area) kinds tiles) read (subst (λ (a : Rect). ArePartTiles seen plane a kinds tiles) grown are)

pub widened-around-requires : goal.widened-around-requires
widened-around-requires g c = near_before c.args.area c.requires.proper c.requires.near

pub part_tiles-requires-clause-proper : goal.part_tiles-requires-clause-proper
part_tiles-requires-clause-proper g c = subst IsProper (sym c.widened-around.ensures) (grown_proper c.args.area c.requires.proper)

pub bad_pieces-requires-clause-parts : goal.bad_pieces-requires-clause-parts
bad_pieces-requires-clause-parts g c =
    let raw = c.args.tech.now in
    let plane = c.args.plane in
    let area = c.args.area in
    let kinds : List Kinds = map g.Y.Layers.kind c.args.parts.now in
    let tiles = c.in_ok-tiles.tiles.items in
    let are = part_tiles_are raw _ plane area _ kinds tiles c.raw.ensures.value c.widened-around.ensures c.in_ok-tiles.ensures in
    subst (λ (n : ℕ). AreTilesOfParts n c.as_slice.result.now) (length-map c.args.parts.now g.Y.Layers.kind)
    (subst (AreTilesOfParts (length kinds)) (sym c.as_slice.ensures.value) (tiles_of_parts raw plane (widened area) kinds tiles are c.requires.near))

pub bad_pieces-requires-clause-types : goal.bad_pieces-requires-clause-types
bad_pieces-requires-clause-types g c =
    let raw = c.args.tech.now in
    let plane = c.args.plane in
    let area = c.args.area in
    let kinds : List Kinds = map g.Y.Layers.kind c.args.parts.now in
    let tiles = c.in_ok-tiles.tiles.items in
    let are = part_tiles_are raw _ plane area _ kinds tiles c.raw.ensures.value c.widened-around.ensures c.in_ok-tiles.ensures in
    let typed = tiles_have_types raw plane (widened area) kinds tiles are c.raw.ensures.well_formed c.raw.ensures.rules
    (All-map (AreTypesOf raw) g.Y.Layers.kind c.args.parts.now c.requires.types) in
    subst (λ (n : ℕ). HaveTypes raw (tile_parts c.as_slice.result.now plane n)) (length-map c.args.parts.now g.Y.Layers.kind)
    (subst (λ (ts : List SetTile). HaveTypes raw (tile_parts ts plane (length kinds))) (sym c.as_slice.ensures.value) typed)

pub returns : goal.returns
returns g c =
    let raw = c.args.tech.now in
    let plane = c.args.plane in
    let area = c.args.area in
    let kinds : List Kinds = map g.Y.Layers.kind c.args.parts.now in
    let tiles = c.in_ok-tiles.tiles.items in
    let pieces = c.in_ok-pieces.pieces.items in
    let cut = map (λ (piece : Rect). common_rect piece area) pieces in
    let found = c.in_ok-found.found.items in
    let are = part_tiles_are raw _ plane area _ kinds tiles c.raw.ensures.value c.widened-around.ensures c.in_ok-tiles.ensures in
    let Defined : Kinds → Type 0 = λ k. (p : ℕ) (square : Square) → k p square ≢ None in
    let defined : All Defined kinds = All-map Defined g.Y.Layers.kind c.args.parts.now c.requires.defined in
    let cover : CoverExactly (OffendsOn raw (tile_parts tiles plane (length kinds)) plane) pieces =
    subst (λ (n : ℕ). CoverExactly (OffendsOn raw (tile_parts tiles plane n) plane) pieces) (sym (length-map c.args.parts.now g.Y.Layers.kind))
    (subst (λ (ts : List SetTile). CoverExactly (OffendsOn raw (tile_parts ts plane (length c.args.parts.now)) plane) pieces) c.as_slice.ensures.value
    c.in_ok-pieces.ensures) in
    let covered = layers_covered raw plane area kinds tiles are defined pieces cover in
    let layouts = sym (map-map (set_layout raw) g.Y.Layers.kind c.args.parts.now) in
    let inside : c.as_slice-3.result.now ≡ cut =
    c.as_slice-3.ensures.value ∙ c.in_ok-inside.ensures ∙ ap (map (λ (piece : Rect). common_rect piece area)) c.as_slice-2.ensures.value in
    subst (λ (ls : List SetLayout). IsStrips (λ square. Covers area square × OffendsOn raw ls plane square) found) (sym layouts)
    (strips_same (IsInUnion cut) (λ square. Covers area square × OffendsOn raw
    (map (set_layout raw) kinds) plane square) covered.sound covered.whole found
    (subst (λ (rects : List Rect). IsStrips (IsInUnion rects) found) inside c.in_ok-found.ensures))
