use Rattle.tile_plane.proofs.Common.{ℕ, ◌++◌, ◌∷◌, [], List, Option, w64, sym, ◌∙◌, ap, subst, arith, rules, unwrap_or, ints, to_z-of_z, Tile}
use Rattle.tile_plane.proofs.Common.{tile_at, IsTaken, Owns, square_at}
use Rattle.tile_plane.proofs.TileLaws.{owner_taken}
use Rattle.tile_plane.proofs.WalkLaws.{extent_falls}
use Rattle.tile_plane.proofs.FollowerLaws.{IsSideUpTo, hint_taken, side_begins, side_goes_on, side_ends, side_inside}
use Rattle.tile_plane.proofs.listings.left_side.Goals as goal

pub upward-init : goal.upward-init
upward-init c =
    let tiles = c.args.store.now in
    let area = c.args.area.now in
    subst (λ (v : List ℕ). IsSideUpTo tiles area v c.args.first)
    (sym (c.in_ok-push.ensures.items ∙ ap (λ (v : List ℕ). v ++ c.args.first ∷ []) c.new-side.ensures.items))
    (side_begins tiles area c.requires.partition c.args.first c.requires.proper c.requires.first)

pub find-id-requires-clause-taken : goal.find-id-requires-clause-taken
find-id-requires-clause-taken c =
    let last = owner_taken _ _ _ c.upward.invariant.on.owns in
    let taken = hint_taken c.args.store.now c.args.hints.now c.len.result c.get-in-upward-2.result c.upward.id c.requires.hints
    c.get-in-upward-2.ensures.lookup last in
    subst (IsTaken c.args.store.now) (sym (c.unwrap_or-hint.ensures ∙ ap (λ (v : Option ℕ). unwrap_or v c.upward.id) c.copied.ensures)) taken

pub find-id-requires-clause-inside : goal.find-id-requires-clause-inside
find-id-requires-clause-inside c =
    let area = c.args.area.now in
    let top = ap (λ (t : Tile). t.area.yhi) c.get.ensures in
    let again = ap (λ (t : Tile). t.area.yhi) c.get-in-upward.ensures in
    let test = c.upward-test.true in
    let x = to_z-of_z w64 area.xlo (search rules) in
    let y = to_z-of_z w64 c.get-in-upward.result.area.yhi (search rules) in
    let covers = side_inside c.args.store.now area c.requires.near c.upward.id c.upward.invariant.on (omega (arith, ints)) in
    omega (arith, ints)

pub upward-smaller : goal.upward-smaller
upward-smaller c =
    let top = ap (λ (t : Tile). t.area.yhi) c.get.ensures in
    let again = ap (λ (t : Tile). t.area.yhi) c.get-in-upward.ensures in
    let test = c.upward-test.true in
    let y = to_z-of_z w64 c.get-in-upward.result.area.yhi (search rules) in
    let covers = c.find-id.ensures.covers in
    extent_falls (tile_at c.args.store.now c.upward.id).area.yhi (tile_at c.args.store.now c.find-id.result).area.yhi c.args.area.now.yhi
    (omega (arith, ints)) (omega (arith, ints))

pub upward-preserved : goal.upward-preserved
upward-preserved c =
    let tiles = c.args.store.now in
    let area = c.args.area.now in
    let last = c.upward.id in
    let top = ap (λ (t : Tile). t.area.yhi) c.get.ensures in
    let again = ap (λ (t : Tile). t.area.yhi) c.get-in-upward.ensures in
    let test = c.upward-test.true in
    let x = to_z-of_z w64 area.xlo (search rules) in
    let y = to_z-of_z w64 c.get-in-upward.result.area.yhi (search rules) in
    let covers = c.find-id.ensures.covers in
    let owns : Owns tiles c.find-id.result (square_at area.xlo (tile_at tiles last).area.yhi) = omega (arith, ints) in
    subst (λ (v : List ℕ). IsSideUpTo tiles area v c.find-id.result) (sym c.in_ok-push-2.ensures.items)
    (side_goes_on tiles area c.requires.partition c.upward.side.items last c.find-id.result c.upward.invariant (omega (arith, ints)) owns)

pub returns : goal.returns
returns c =
    let tiles = c.args.store.now in
    let area = c.args.area.now in
    let top = ap (λ (t : Tile). t.area.yhi) c.get.ensures in
    let test = c.upward-test.false in
    side_ends tiles area c.requires.partition c.upward.side.items c.upward.id c.upward.invariant (omega (arith, ints))
