use Rattle.tile_plane.proofs.Common.{◌≡◌, ◌≢◌, ℕ, Option, Some, None, sym, ◌∙◌, ap, subst, IfSome, MatchOption, Square, Rect, IsNear, joined_rect}
use Rattle.tile_plane.proofs.Common.{IsBox, Tile, Tiles, tile_at, IsNextTile, value_at, IsPlane}
use Rattle.tile_plane.proofs.WholeLaws.{BoxSoFar, IsBoxSoFar, box_begins, box_grows, box_passes, no_box, box_found, box_near}
use Rattle.tile_plane.proofs.listings.box_of.Goals as goal

pub loop-id-preserved-in-Some-found : goal.loop-id-preserved-in-Some-found
loop-id-preserved-in-Some-found c =
    let tiles = c.args.store.now in
    let id = c.in-Some.id in
    let material : (tile_at tiles id).value ≢ 0 = λ e. c.if-tile-ne0.true (ap (λ (t : Tile). t.value) c.get-tile.ensures ∙ e) in
    let joined = c.joined.ensures ∙ ap (λ (t : Tile). joined_rect c.in-Some-found.old t.area) c.get-tile.ensures in
    subst (IsBoxSoFar tiles (Some id)) (sym joined) (box_grows tiles c.loop-id.last id c.in-Some.ensures material c.in-Some-found.old
    (subst (BoxSoFar tiles c.loop-id.last) c.in-Some-found.is c.loop-id.invariant))

pub loop-id-preserved-in-None : goal.loop-id-preserved-in-None
loop-id-preserved-in-None c =
    let tiles = c.args.store.now in
    let id = c.in-Some.id in
    let material : (tile_at tiles id).value ≢ 0 = λ e. c.if-tile-ne0.true (ap (λ (t : Tile). t.value) c.get-tile.ensures ∙ e) in
    subst (λ (t : Tile). IsBoxSoFar tiles (Some id) t.area) (sym c.get-tile.ensures) (box_begins tiles c.loop-id.last id c.in-Some.ensures material
    (subst (BoxSoFar tiles c.loop-id.last) c.in-None.is c.loop-id.invariant))

pub loop-id-preserved : goal.loop-id-preserved
loop-id-preserved c =
    let tiles = c.args.store.now in
    box_passes tiles c.loop-id.last c.in-Some.id c.in-Some.ensures (sym (ap (λ (t : Tile). t.value) c.get-tile.ensures) ∙ c.if-tile-ne0.false) c.loop-id.found
    c.loop-id.invariant

smallest : (tiles : Tiles) → IsPlane tiles → (last : Option ℕ) → IsNextTile tiles last None → (found : Option Rect) → BoxSoFar tiles last found
    → MatchOption found ((square : Square) → value_at tiles square ≡ 0) (IsBox (value_at tiles))
smallest tiles plane last all None none = no_box tiles plane last all none
smallest tiles plane last all (Some box) so_far = box_found tiles plane last all box so_far

near_if_some : (tiles : Tiles) → IsPlane tiles → (last : Option ℕ) → IsNextTile tiles last None → (found : Option Rect) → BoxSoFar tiles last found
    → IfSome found IsNear
near_if_some tiles plane last all None none = tt
near_if_some tiles plane last all (Some box) so_far = box_near tiles plane last all box so_far

pub returns-clause-smallest : goal.returns-clause-smallest
returns-clause-smallest c =
    let tiles = c.args.store.now in
    let none : IsNextTile tiles c.loop-id.last None = c.in_default.ensures in
    smallest tiles c.requires c.loop-id.last none c.loop-id.found c.loop-id.invariant

pub returns-clause-near : goal.returns-clause-near
returns-clause-near c =
    let tiles = c.args.store.now in
    let none : IsNextTile tiles c.loop-id.last None = c.in_default.ensures in
    near_if_some tiles c.requires c.loop-id.last none c.loop-id.found c.loop-id.invariant
