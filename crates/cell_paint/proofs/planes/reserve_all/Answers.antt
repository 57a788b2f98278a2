use Rattle.cell_paint.proofs.Common.{◌<◌, List, length, sym, ◌∙◌, subst, arith, All, get_or_default, Piece, AreDisjoint, IsNear, IsProper, AreSame}
use Rattle.cell_paint.proofs.Common.{PlaneValue, number_on, no_plane, IsReadyFor}
use Rattle.std.specs.Prelude.{AllPairs}
use Rattle.cell_paint.proofs.PlaneLaws.{settable_at, pieces_read, reserved_more}
use Rattle.cell_paint.proofs.planes.reserve_all.Goals as goal

pub reserve-requires-clause-proper : goal.reserve-requires-clause-proper
reserve-requires-clause-proper c =
    subst (λ (pieces : List Piece). All (λ (piece : Piece). IsProper piece.area) pieces) (sym c.as_slice.ensures.value)
    (settable_at c.args.changes.now c.loop-index.index c.index-changes-index.result c.requires.settable c.loop-index-test.true c.index-changes-index.is).proper

pub reserve-requires-clause-near : goal.reserve-requires-clause-near
reserve-requires-clause-near c =
    subst (λ (pieces : List Piece). All (λ (piece : Piece). IsNear piece.area) pieces) (sym c.as_slice.ensures.value)
    (settable_at c.args.changes.now c.loop-index.index c.index-changes-index.result c.requires.settable c.loop-index-test.true c.index-changes-index.is).near

pub reserve-requires-clause-apart : goal.reserve-requires-clause-apart
reserve-requires-clause-apart c =
    subst (λ (pieces : List Piece). AllPairs (λ (a b : Piece). AreDisjoint a.area b.area) pieces) (sym c.as_slice.ensures.value)
    (settable_at c.args.changes.now c.loop-index.index c.index-changes-index.result c.requires.settable c.loop-index-test.true c.index-changes-index.is).apart

pub loop-index-preserved : goal.loop-index-preserved
loop-index-preserved c =
    let olds = c.args.planes.now in
    let now = c.loop-index.planes in
    let index = c.loop-index.index in
    let new = c.reserve.new.self in
    let below : index < length now = omega (arith, c.loop-index.invariant.long, c.requires.one_each) in
    let same = get_or_default now index c.index-planes-index.result no_plane below in
    reserved_more index olds now c.args.changes.now new below
    (subst (λ (plane : PlaneValue). AreSame (number_on plane) (number_on new)) same c.reserve.ensures.same)
    (λ other.
    subst (λ (pieces : List Piece). IsReadyFor new pieces)
    (c.as_slice.ensures.value ∙ pieces_read c.args.changes.now index c.index-changes-index.result other c.loop-index-test.true c.index-changes-index.is)
    c.in_ok-reserve.ensures.ready)
    c.loop-index.invariant
