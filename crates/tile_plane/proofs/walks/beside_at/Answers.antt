use Rattle.tile_plane.proofs.Common.{◌≡◌, true≢false, ℤ, w64, to_z, of_z, refl, sym, ◌∙◌, ap, subst, to_z-of_z, Tile, tile_at, Owns, IsLast, IsShort}
use Rattle.tile_plane.proofs.Common.{square_beside}
use Rattle.tile_plane.proofs.WalkLaws.{HasBeside, goes_on_or_last, last_off, walk_begins, walk_inside, walk_ends, walk_goes_on, walk_nearer}
use Rattle.tile_plane.proofs.walks.beside_at.Goals as goal
use Rattle.tile_plane.proofs.walks.beside_at.Goals.{Else-is_last, In-along}

beside : (c : Else-is_last) → HasBeside c.args.side c.args.store.now c.args.id (to_z w64 (of_z w64 c.args.at))
beside c = record {
  partition = c.requires.partition;
  stitches = c.requires.stitches;
  taken = c.requires.taken;
  line = rw (to_z-of_z w64 c.args.at c.ranges.at) c.requires.line;
  inside = goes_on_or_last c.args.side _
      (λ last. true≢false (sym (c.if-is_last.ensures.1 (subst (λ (t : Tile). IsLast c.args.side t.area) (sym c.get-tile.ensures) last))));
}

short : (c : In-along) → IsShort c.args.side (tile_at c.args.store.now c.along.next).area (to_z w64 (of_z w64 c.args.at))
short c = subst (λ (t : Tile). IsShort c.args.side t.area (to_z w64 (of_z w64 c.args.at))) c.get.ensures (c.along-test.ensures.0 refl)

pub returns-then-is_last : goal.returns-then-is_last
returns-then-is_last c =
    λ inside. absurd (last_off c.args.side _ _ (subst (λ (t : Tile). IsLast c.args.side t.area) c.get-tile.ensures (c.if-is_last.ensures.0 refl)) inside)

pub along-init : goal.along-init
along-init c = record {
  walk = rw (c.stitch-next.ensures, c.get-tile.ensures) (walk_begins (beside (goal.at.along-init c).Else-is_last));
  other = c.stitch_or_self-other.ensures;
}

pub step_along-requires-clause-inside : goal.step_along-requires-clause-inside
step_along-requires-clause-inside c =
    rw (c.square_beside-square.ensures, c.get-tile.ensures) (walk_inside (beside (goal.at.step_along-requires-clause-inside c).Else-is_last))

pub returns-in_default : goal.returns-in_default
returns-in_default c =
    let same : to_z w64 (of_z w64 c.args.at) ≡ c.args.at = to_z-of_z w64 c.args.at c.ranges.at in
    λ inside. subst (Owns c.args.store.now c.along.other)
    (c.square_beside-square.ensures ∙ ap (square_beside c.args.side c.get-tile.result.area) same
    ∙ ap (λ (t : Tile). square_beside c.args.side t.area c.args.at) c.get-tile.ensures) c.in_default.ensures

pub along-preserved : goal.along-preserved
along-preserved c = record {
  walk = rw (c.stitch-next-in-along.ensures, c.along-in-along.ensures, c.get-in-along.ensures)
      (walk_goes_on (beside (goal.at.along-preserved c).Else-is_last) c.along.invariant.walk (short (goal.at.along-preserved c).In-along));
  other = c.in-Some.ensures;
}

pub along-smaller : goal.along-smaller
along-smaller c =
    rw (c.stitch-next-in-along.ensures, c.along-in-along.ensures, c.get-in-along.ensures)
    (walk_nearer (beside (goal.at.along-smaller c).Else-is_last) c.along.invariant.walk (short (goal.at.along-smaller c).In-along))

pub returns : goal.returns
returns c =
    let same : to_z w64 (of_z w64 c.args.at) ≡ c.args.at = to_z-of_z w64 c.args.at c.ranges.at in
    λ inside. subst (λ (v : ℤ). Owns c.args.store.now c.along.next (square_beside c.args.side (tile_at c.args.store.now c.args.id).area v)) same
    (walk_ends (beside (goal.at.returns c).Else-is_last) c.along.invariant.walk
    (λ short. true≢false (sym (c.along-test.ensures.1
    (subst (λ (t : Tile). IsShort c.args.side t.area (to_z w64 (of_z w64 c.args.at))) (sym c.get.ensures) short)))))
