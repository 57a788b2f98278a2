use Rattle.hier_merge.proofs.Common.{◌≡◌, ◌+◌, ◌++◌, ℕ, suc, List, length, map, ap, sym, subst, ◌∙◌, arith, Rect, Square, RawTech, OffendsOn}
use Rattle.hier_merge.proofs.Common.{parts_of_plane, AreStripsByPlane}
use Rattle.hier_merge.proofs.PlaneStrips.{plane_more}
use Rattle.hier_merge.proofs.SeamLaws.{typed_pieces}
use Rattle.hier_merge.proofs.offending_squares.offending_by_plane.Goals as goal

pub loop-plane-init : goal.loop-plane-init
loop-plane-init c = λ typed. c.new-found.ensures.items

pub loop-plane-preserved : goal.loop-plane-preserved
loop-plane-preserved c = λ typed.
    let raw = c.args.tech.now in
    let tiles = c.args.tiles.now in
    let plane = c.loop-plane.plane in
    let strips = c.in_ok-pieces.pieces.offending.items in
    let pieces = c.in_ok-pieces.pieces.stacks.items in
    let has = c.in_ok-pieces.ensures in
    let Offending : ℕ → Square → Type 0 = λ p. OffendsOn raw (parts_of_plane raw tiles typed.count p) p in
    let next : suc plane ≡ plane + 1 = omega arith in
    let added = c.in_ok-add_strips.ensures ∙ ap (λ (s : List Rect). c.loop-plane.found.items ++ map (λ area. (plane, area)) s) c.as_slice.ensures.value in
    subst (λ (found : List (ℕ × Rect)). AreStripsByPlane Offending (plane + 1) found) (sym added)
    (subst (λ (count : ℕ). AreStripsByPlane Offending count (c.loop-plane.found.items ++ map (λ area. (plane, area)) strips)) next
    (plane_more Offending 0 plane plane c.loop-plane.found.items strips (omega arith) (c.loop-plane.invariant typed)
    (has.strips_are (parts_of_plane raw tiles typed.count plane) (typed_pieces raw plane tiles pieces has.stand typed))))

pub returns : goal.returns
returns c typed =
    let raw = c.args.tech.now in
    let long = ap length c.items-plane-end.ensures in
    let all : c.loop-plane.plane ≡ length c.raw.result.now.planes = omega (arith, long, c.loop-plane-test.false, c.loop-plane.auto.plane-end) in
    subst (λ (count : ℕ). AreStripsByPlane (λ plane. OffendsOn raw (parts_of_plane raw c.args.tiles.now typed.count plane) plane) count c.loop-plane.found.items)
    (all ∙ ap (λ (t : RawTech). length t.planes) c.raw.ensures.value) (c.loop-plane.invariant typed)
