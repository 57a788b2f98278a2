use Rattle.tile_plane.proofs.Common.{◌≡◌, ℕ, ◌++◌, ◌∷◌, [], List, map, take, get_or, w64, to_z, of_z, ◌∙◌, ap, subst, arith, rules, ints, to_z-of_z}
use Rattle.tile_plane.proofs.Common.{take_all, In, In-get_or, All-from_In, corner_of, Piece, Tile, part_in, tile_at, IsTaken}
use Rattle.tile_plane.proofs.TileLaws.{owner_taken}
use Rattle.tile_plane.proofs.PartLaws.{alone_listed, one_more_part}
use Rattle.tile_plane.proofs.listings.push_parts.Goals as goal

pub get-requires : goal.get-requires
get-requires c = owner_taken c.args.store.now c.args.first (corner_of c.args.area.now) c.requires.first

pub part_in-requires : goal.part_in-requires
part_in-requires c = owner_taken c.args.store.now c.args.first (corner_of c.args.area.now) c.requires.first

pub part_in-requires-in-loop-id : goal.part_in-requires-in-loop-id
part_in-requires-in-loop-id c =
    let tiles = c.args.store.now in
    let ids = c.in_ok-ids.ids.items in
    let id = get_or c.deref-id-items.result.now c.loop-id.id-index 0 in
    let test = c.loop-id-test.true in
    let there : In id ids = subst (In id) c.deref-id-items.ensures.value (In-get_or c.deref-id-items.result.now c.loop-id.id-index 0 (omega arith)) in
    let meets = c.in_ok-ids.ensures.2 id there in
    owner_taken tiles id meets.square meets.owns

pub loop-id-preserved : goal.loop-id-preserved
loop-id-preserved c =
    let tiles = c.args.store.now in
    let area = c.args.area.now in
    let all = c.deref-id-items.result.now in
    let index = c.loop-id.id-index in
    let test = c.loop-id-test.true in
    c.in_ok-push-2.ensures.items
    ∙ ap (λ (p : Piece). c.loop-id.parts.items ++ p ∷ []) c.part_in-in-loop-id.ensures
    ∙ one_more_part c.args.parts.now.items c.loop-id.parts.items all (part_in tiles area) index 0 (omega arith) c.loop-id.invariant

pub returns-then-area-corner-2-clause-parts : goal.returns-then-area-corner-2-clause-parts
returns-then-area-corner-2-clause-parts c =
    let tiles = c.args.store.now in
    let area = c.args.area.now in
    let near = c.requires.near in
    let right : to_z w64 (of_z w64 c.get.result.area.xhi) ≡ (tile_at tiles c.args.first).area.xhi =
    to_z-of_z w64 c.get.result.area.xhi (search rules) ∙ ap (λ (t : Tile). t.area.xhi) c.get.ensures in
    let top : to_z w64 (of_z w64 c.get.result.area.yhi) ≡ (tile_at tiles c.args.first).area.yhi =
    to_z-of_z w64 c.get.result.area.yhi (search rules) ∙ ap (λ (t : Tile). t.area.yhi) c.get.ensures in
    let xhi : to_z w64 (of_z w64 area.xhi) ≡ area.xhi = to_z-of_z w64 area.xhi (search rules) in
    let yhi : to_z w64 (of_z w64 area.yhi) ≡ area.yhi = to_z-of_z w64 area.yhi (search rules) in
    let wide = c.if-area-corner.true in
    let high = c.if-area-corner-2.true in
    record {
      ids = c.args.first ∷ [];
      lists = alone_listed tiles area c.args.first c.requires.partition c.requires.proper c.requires.first (omega (arith, ints)) (omega (arith, ints));
      joined = c.in_ok-push.ensures.items ∙ ap (λ (p : Piece). c.args.parts.now.items ++ p ∷ []) c.part_in.ensures;
    }

pub returns-clause-parts : goal.returns-clause-parts
returns-clause-parts c =
    let tiles = c.args.store.now in
    let area = c.args.area.now in
    let ids = c.in_ok-ids.ids.items in
    let test = c.loop-id-test.false in
    let all : take c.loop-id.id-index c.deref-id-items.result.now ≡ ids = take_all c.loop-id.id-index c.deref-id-items.result.now (omega arith)
    ∙ c.deref-id-items.ensures.value in
    record {
      ids = ids;
      lists = c.in_ok-ids.ensures;
      joined = c.loop-id.invariant ∙ ap (λ (v : List ℕ). c.args.parts.now.items ++ map (part_in tiles area) v) all;
    }

pub returns-clause-hints : goal.returns-clause-hints
returns-clause-hints c =
    let tiles = c.args.store.now in
    All-from_In (IsTaken tiles) c.in_ok-ids.ids.items (λ id there. let meets = c.in_ok-ids.ensures.2 id there in owner_taken tiles id meets.square meets.owns)
