use Rattle.tile_plane.proofs.Common.{sym, subst, arith, rules, All, get_or_default, Covers, plane_range, value_at, IsTaken}
use Rattle.tile_plane.proofs.TileLaws.{owner_taken}
use Rattle.tile_plane.proofs.PartLaws.{corner_in_plane, pieces_go_on, pieces_end}
use Rattle.tile_plane.proofs.listings.pieces_in.Goals as goal

pub find-first-requires-clause-inside : goal.find-first-requires-clause-inside
find-first-requires-clause-inside c =
    let below = c.loop-area-test.true in
    subst (Covers plane_range) (sym c.corner.ensures)
    (corner_in_plane _ (c.requires.near c.loop-area.area-index _ below) (c.requires.proper c.loop-area.area-index _ below))

pub loop-area-init : goal.loop-area-init
loop-area-init c = (
  c.requires.taken,
  subst (All (IsTaken c.args.store.now)) (sym c.new-hints.ensures.items) (λ k d below. absurd (omega arith)),
  search rules,
)

pub loop-area-preserved : goal.loop-area-preserved
loop-area-preserved c =
    let tiles = c.args.store.now in
    let areas = c.args.areas.now in
    let index = c.loop-area.area-index in
    let below = c.loop-area-test.true in (
      owner_taken tiles c.find-first.result _ c.find-first.ensures,
      c.in_ok-push_parts.ensures.hints,
      pieces_go_on tiles c.requires.plane areas index _ c.loop-area.pieces.items c.push_parts.new.parts.items below (get_or_default areas index _ _ below)
          (c.requires.near index _ below) c.requires.apart c.loop-area.invariant.2 c.in_ok-push_parts.ensures.parts,
    )

pub returns : goal.returns
returns c =
    pieces_end (value_at c.args.store.now) c.args.areas.now c.loop-area.area-index c.loop-area.pieces.items c.loop-area-test.false c.requires.near
    c.loop-area.invariant.2
