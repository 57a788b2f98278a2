use Rattle.run_plane.proofs.Common.{◌≡◌, ◌+◌, ◌≤◌, List, arith, ◌++◌, sym, subst, ◌∙◌, ap, rules, All, Rect, Piece, corner_key, parts_in}
use Rattle.std.proofs.lemmas.List.Sorted.{answers_always}
use Rattle.run_plane.proofs.TileLaws.{AreTilesUpTo, no_tiles, more_tiles, sorted_tiles}
use Rattle.run_plane.proofs.listings.tiles_of.Goals as goal

pub loop-below-init : goal.loop-below-init
loop-below-init c = subst (AreTilesUpTo c.args.pieces.now c.args.area.now 0) (sym c.new-tiles.ensures.items)
    (no_tiles c.args.pieces.now c.args.area.now c.requires)

pub loop-below-preserved : goal.loop-below-preserved
loop-below-preserved c =
    let pieces = c.args.pieces.now in
    let area = c.args.area.now in
    let below = c.loop-below.below in
    let tiles = c.loop-below.tiles.items in
    let strips = c.in_ok-strips.strips.items in
    let parts : c.in_ok-parts.parts.items ≡ parts_in strips area (below + 1) = c.in_ok-parts.ensures
    ∙ ap (λ (v : List Rect). parts_in v area (below + 1)) c.as_slice.ensures.value in
    let joined : c.append.new.self.items ≡ tiles ++ parts_in strips area (below + 1) = c.in_ok-append.ensures.items
    ∙ ap (λ (v : List Piece). tiles ++ v) parts in
    subst (AreTilesUpTo pieces area (below + 1)) (sym joined) (more_tiles pieces area c.requires below strips c.in_ok-strips.ensures tiles
    c.loop-below.invariant)

pub returns : goal.returns
returns c =
    let pieces = c.args.pieces.now in
    let area = c.args.area.now in
    let below = c.loop-below.below in
    let end = c.loop-below-test.false in
    let bound = c.loop-below.auto.below-end in
    let highest : All (λ (piece : Piece). piece.value ≤ below) pieces = λ k d within. let least = c.greatest_value-below-end.ensures k d within in
    omega arith in
    sorted_tiles pieces area c.requires below c.loop-below.tiles.items c.sort_unstable_by_key.new.self.items highest c.loop-below.invariant
    c.sort_unstable_by_key.ensures.permutation (c.sort_unstable_by_key.ensures.sorted corner_key (answers_always _ _ _ (λ f a r g h. search rules)))
