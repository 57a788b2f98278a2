use Rattle.tile_plane.proofs.Common.{◌++◌, ◌∷◌, [], Some, None, sym, ◌∙◌, ap, subst, rules, answers_always, Tile, IsNextTile}
use Rattle.tile_plane.proofs.WholeLaws.{rect_key, AreTilesOf, tiles_go_on, tiles_pass, strips_listed, strips_near}
use Rattle.tile_plane.proofs.listings.strips.Goals as goal

pub loop-id-preserved-in_ok-push : goal.loop-id-preserved-in_ok-push
loop-id-preserved-in_ok-push c =
    let tiles = c.args.store.now in
    let value = c.args.value in
    let found = c.loop-id.found.items in
    let pushed = c.in_ok-push.ensures.items ∙ ap (λ (t : Tile). found ++ t.area ∷ []) c.get-tile.ensures in
    subst (AreTilesOf tiles value (Some c.in-Some.id)) (sym pushed)
    (tiles_go_on tiles value c.loop-id.last c.in-Some.id found c.in-Some.ensures c.loop-id.invariant (sym (ap (λ (t : Tile). t.value) c.get-tile.ensures)
    ∙ c.if-tile-value.true))

pub loop-id-preserved : goal.loop-id-preserved
loop-id-preserved c =
    tiles_pass c.args.store.now c.args.value c.loop-id.last c.in-Some.id c.loop-id.found.items c.in-Some.ensures c.loop-id.invariant
    (λ e. c.if-tile-value.false (ap (λ (t : Tile). t.value) c.get-tile.ensures ∙ e))

pub returns-clause-strips : goal.returns-clause-strips
returns-clause-strips c =
    let none : IsNextTile c.args.store.now c.loop-id.last None = c.in_default.ensures in
    strips_listed c.args.store.now c.requires.plane c.args.value c.requires.material c.loop-id.last c.loop-id.found.items c.sort_unstable_by_key.new.self.items
    none c.loop-id.invariant c.sort_unstable_by_key.ensures.permutation (c.sort_unstable_by_key.ensures.sorted rect_key
    (answers_always _ _ _ (λ f a r g h. search rules)))

pub returns-clause-near : goal.returns-clause-near
returns-clause-near c =
    let none : IsNextTile c.args.store.now c.loop-id.last None = c.in_default.ensures in
    strips_near c.args.store.now c.requires.plane c.args.value c.requires.material c.loop-id.last c.loop-id.found.items c.sort_unstable_by_key.new.self.items
    none c.loop-id.invariant c.sort_unstable_by_key.ensures.permutation (c.sort_unstable_by_key.ensures.sorted rect_key
    (answers_always _ _ _ (λ f a r g h. search rules)))
