use Rattle.cell_paint.proofs.Common.{◌≡◌, ◌≤◌, ℕ, List, length, map, sym, ◌∙◌, ap, subst, rules, Square, Rect, Piece, AreTilesIn, TypeId, Paint}
use Rattle.cell_paint.proofs.Common.{PlaneValue, seen_kind}
use Rattle.tech_model.specs.LayerTiles.{AreTilesOf}
use Rattle.cell_paint.proofs.PaintTiles.{plane_seen, with_type, typed_tiles, no_tiles}
use Rattle.cell_paint.proofs.paints.CellPaintLayers.tiles.Goals as goal

pub returns : goal.returns
returns c =
    let paint = c.args.self.now in
    let same = c.deref.ensures.value ∙ ap (λ (p : Paint). p.planes) c.self.view_is in
    let lookup = c.in-Some.ensures.lookup in
    let seen = plane_seen paint c.deref.result.now c.from.result c.args.plane c.in-Some.plane.now same c.from.ensures lookup.3.0 lookup.1 in
    subst (λ (found : List (Rect × TypeId)). AreTilesOf (seen_kind paint c.args.plane) c.args.area found)
    (sym (c.in_ok-found.ensures ∙ ap (λ (tiles : List Piece). map with_type tiles) c.as_slice.ensures.value))
    (typed_tiles paint c.args.plane c.args.area c.in-Ok.tiles.items
    (subst (λ (kinds : Square → ℕ). AreTilesIn kinds c.args.area c.in-Ok.tiles.items) seen c.in-Ok.ensures.tiles))

pub returns-in_default : goal.returns-in_default
returns-in_default c =
    let paint = c.args.self.now in
    let same : c.deref.result.now ≡ paint.planes = c.deref.ensures.value ∙ ap (λ (p : Paint). p.planes) c.self.view_is in
    let past : length c.deref.result.now ≤ c.from.result = search rules in
    let beyond : length paint.planes ≤ c.args.plane =
    subst (λ (n : ℕ). length paint.planes ≤ n) c.from.ensures (subst (λ (planes : List PlaneValue). length planes ≤ c.from.result) same past) in
    subst (λ (found : List (Rect × TypeId)). AreTilesOf (seen_kind paint c.args.plane) c.args.area found) (sym c.new.ensures.items)
    (no_tiles paint c.args.plane c.args.area beyond)
