use Rattle.tile_members.proofs.Common.{◌≡◌, ◌<◌, List, length, get_or, sym, subst, arith, slice_get_within, RegionTile, Rect, AreMeeting, unit_at}
use Rattle.std.proofs.lemmas.List.{get_or_read}
use Rattle.tile_members.proofs.OpenedLaws.{NoneOfPlane, no_tile, none_more, number_told, region_below, some_of_plane, tile_at_place, tile_in_reach, tile_read}
use Rattle.tile_members.proofs.opened_cells.OpenedCell.node_at.Goals as goal

pub unit_at-requires : goal.unit_at-requires
unit_at-requires c =
    tile_in_reach c.args.self.now (record { plane = c.args.plane; square = c.args.square }) c.requires.searchable c.requires.there

pub bounds-tiles-position : goal.bounds-tiles-position
bounds-tiles-position c =
    let opened = c.args.self.now in
    let found = c.deref-position-items.result.now in
    let position = get_or found c.loop-position.position-index 0 in
    let are : AreMeeting opened.areas (unit_at c.args.square) c.in_ok-met.met.items =
    subst (λ (area : Rect). AreMeeting opened.areas area c.in_ok-met.met.items) c.unit_at.ensures c.in_ok-met.ensures in
    let at =
    tile_at_place opened c.args.square c.in_ok-met.met.items found c.loop-position.position-index c.requires.searchable c.deref-position-items.ensures.value are
    c.loop-position-test.true in
    subst (λ (tiles : List RegionTile). position < length tiles) (sym c.items-tiles.ensures)
    (slice_get_within opened.found.regions.tiles position at.tile at.there)

pub offset_bounds-tiles-position : goal.offset_bounds-tiles-position
offset_bounds-tiles-position c = let below = bounds-tiles-position c in omega (arith, below, c.items-tiles.type_inv)

pub index-requires : goal.index-requires
index-requires c =
    let opened = c.args.self.now in
    let found = c.deref-position-items.result.now in
    let position = get_or found c.loop-position.position-index 0 in
    let are : AreMeeting opened.areas (unit_at c.args.square) c.in_ok-met.met.items =
    subst (λ (area : Rect). AreMeeting opened.areas area c.in_ok-met.met.items) c.unit_at.ensures c.in_ok-met.ensures in
    let at =
    tile_at_place opened c.args.square c.in_ok-met.met.items found c.loop-position.position-index c.requires.searchable c.deref-position-items.ensures.value are
    c.loop-position-test.true in
    let tile : RegionTile = get_or c.items-tiles.result.now position no_tile in
    let read = tile_read opened c.args.square c.items-tiles.result.now position no_tile at c.items-tiles.ensures in
    omega (arith, region_below opened position tile c.requires.searchable read, opened.found.numbers.ok.0)

pub returns-then-tile-plane : goal.returns-then-tile-plane
returns-then-tile-plane c =
    let opened = c.args.self.now in
    let found = c.deref-position-items.result.now in
    let position = get_or found c.loop-position.position-index 0 in
    let are : AreMeeting opened.areas (unit_at c.args.square) c.in_ok-met.met.items =
    subst (λ (area : Rect). AreMeeting opened.areas area c.in_ok-met.met.items) c.unit_at.ensures c.in_ok-met.ensures in
    let at =
    tile_at_place opened c.args.square c.in_ok-met.met.items found c.loop-position.position-index c.requires.searchable c.deref-position-items.ensures.value are
    c.loop-position-test.true in
    let read = tile_read opened c.args.square c.items-tiles.result.now position _ at c.items-tiles.ensures in
    number_told opened c.args.plane c.args.square position _ c.index.result.now at read c.if-tile-plane.true
    (get_or_read opened.found.numbers.items _ _ (region_below opened position _ c.requires.searchable read) c.index.ensures 0)

pub loop-position-preserved : goal.loop-position-preserved
loop-position-preserved c =
    let opened = c.args.self.now in
    let found = c.deref-position-items.result.now in
    let position = get_or found c.loop-position.position-index 0 in
    let are : AreMeeting opened.areas (unit_at c.args.square) c.in_ok-met.met.items =
    subst (λ (area : Rect). AreMeeting opened.areas area c.in_ok-met.met.items) c.unit_at.ensures c.in_ok-met.ensures in
    let at =
    tile_at_place opened c.args.square c.in_ok-met.met.items found c.loop-position.position-index c.requires.searchable c.deref-position-items.ensures.value are
    c.loop-position-test.true in
    let read = tile_read opened c.args.square c.items-tiles.result.now position _ at c.items-tiles.ensures in
    none_more opened c.args.plane found c.loop-position.position-index _ c.loop-position.invariant read c.if-tile-plane.false

pub unreachable-requires : goal.unreachable-requires
unreachable-requires c =
    let opened = c.args.self.now in
    let are : AreMeeting opened.areas (unit_at c.args.square) c.in_ok-met.met.items =
    subst (λ (area : Rect). AreMeeting opened.areas area c.in_ok-met.met.items) c.unit_at.ensures c.in_ok-met.ensures in
    let found : AreMeeting opened.areas (unit_at c.args.square) c.deref-position-items.result.now =
    subst (AreMeeting opened.areas (unit_at c.args.square)) (sym c.deref-position-items.ensures.value) are in
    let whole : c.loop-position.position-index ≡ length c.deref-position-items.result.now = omega (arith, c.loop-position-test.false, c.loop-position.auto) in
    some_of_plane opened (record { plane = c.args.plane; square = c.args.square }) c.deref-position-items.result.now c.requires.searchable found
    c.requires.there
    (subst (NoneOfPlane opened c.args.plane c.deref-position-items.result.now) whole c.loop-position.invariant)
