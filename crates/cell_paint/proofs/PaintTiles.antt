-- Planes of a cell's paint: what is read of one, and its tiles with their types.
use Rattle.cell_paint.proofs.Common.{◌≡◌, ℕ, ◌<◌, ◌≤◌, List, [], length, get_or, map, sym, ◌∙◌, ap, subst, arith, get_or_default, get_or-map}
use Rattle.cell_paint.proofs.Common.{length-map, In-map, In-map_source, Square, Rect, Piece, Covers, AreTilesIn, tile_value, tile_inside}
use Rattle.cell_paint.proofs.Common.{tiles_apart, TypeId, kinds_on, PlaneValue, Paint, number_on, no_plane, layout_of, seen_kind}
use Rattle.std.proofs.Common.{Some}
use Rattle.tech_model.specs.LayerTiles.{IsTileOf, AreTilesOf}
use Rattle.cell_paint.proofs.PlaneLaws.{space_past}

-- a plane that was read shows what the paint has on it
pub plane_seen : (paint : Paint) (planes : List PlaneValue) (index plane : ℕ) (read : PlaneValue) → planes ≡ paint.planes → index ≡ plane
    → index < length planes
    → read ≡ get_or planes index read → number_on read ≡ kinds_on (layout_of paint) plane
plane_seen paint planes index plane read same here below is =
    ap (λ (p : PlaneValue). number_on p)
    (is ∙ get_or_default planes index read no_plane below ∙ ap (λ (n : ℕ). get_or planes n no_plane) here
    ∙ ap (λ (list : List PlaneValue). get_or list plane no_plane) same)

-- the area of a tile with its type
abbrev pub with_type : Piece → Rect × TypeId
with_type tile = (tile.area, record { 0 = tile.value })

-- the tiles of a plane with their types
pub typed_tiles : (paint : Paint) (plane : ℕ) (area : Rect) (tiles : List Piece) → AreTilesIn (kinds_on (layout_of paint) plane) area tiles
    → AreTilesOf (seen_kind paint plane) area (map with_type tiles)
typed_tiles paint plane area tiles are =
    let kinds : Square → ℕ = kinds_on (layout_of paint) plane in
    record {
      each = λ typed i. (let source = In-map_source with_type typed tiles i in
          let tile = source.0 in
          let is = are.each tile source.1.0 in
          let one : IsTileOf (seen_kind paint plane) area (with_type tile) =
          record {
            proper = is.meets;
            inside = tile_inside kinds area tile is;
            material = is.material;
            squares = λ square covers. ap (λ (n : ℕ). Some n) (tile_value kinds area tile is square covers);
          } in
          subst (λ (t : Rect × TypeId). IsTileOf (seen_kind paint plane) area t) source.1.1 one);
      apart = λ i j d less below square covers covers'.
          let other : Piece = record { area = d.0; value = d.1.0 } in
          let end : j < length tiles = subst (λ (n : ℕ). j < n) (length-map tiles with_type) below in
          let first = ap (λ (t : Rect × TypeId). t.0) (get_or-map with_type tiles i other d (omega arith)) in
          let second = ap (λ (t : Rect × TypeId). t.0) (get_or-map with_type tiles j other d end) in
          tiles_apart kinds area tiles are i j other less end square
          (subst (λ (r : Rect). Covers r square) first covers) (subst (λ (r : Rect). Covers r square) second covers');
      every = λ square t covers is some.
          let value : kinds square ≡ t = cc in
          let found = are.whole square covers (λ space. some (sym value ∙ space)) in
          (with_type found.0, (In-map with_type found.0 tiles found.1, found.2));
    }

-- past the last plane there are none
pub no_tiles : (paint : Paint) (plane : ℕ) (area : Rect) → length paint.planes ≤ plane → AreTilesOf (seen_kind paint plane) area []
no_tiles paint plane area past = record {
  each = λ tile none. absurd none;
  apart = λ i j d less below. absurd (omega arith);
  every = λ square t covers is some.
      let value : kinds_on (layout_of paint) plane square ≡ t = cc in
      absurd (some (sym value ∙ space_past paint.planes plane square past));
}
