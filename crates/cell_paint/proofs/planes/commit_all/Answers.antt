use Rattle.cell_paint.proofs.Common.{◌<◌, List, length, sym, ◌∙◌, subst, arith, All, get_or_default, Piece, IsNear, IsProper, AreSet, PlaneValue}
use Rattle.cell_paint.proofs.Common.{number_on, no_plane}
use Rattle.cell_paint.proofs.PlaneLaws.{plane_at, settable_at, pieces_read, committed_more}
use Rattle.cell_paint.proofs.planes.commit_all.Goals as goal

pub commit-requires-clause-proper : goal.commit-requires-clause-proper
commit-requires-clause-proper c =
    subst (λ (pieces : List Piece). All (λ (piece : Piece). IsProper piece.area) pieces) (sym c.as_slice.ensures.value)
    (settable_at c.args.changes.now c.loop-index.index c.index-changes-index.result c.requires.settable c.loop-index-test.true c.index-changes-index.is).proper

pub commit-requires-clause-near : goal.commit-requires-clause-near
commit-requires-clause-near c =
    subst (λ (pieces : List Piece). All (λ (piece : Piece). IsNear piece.area) pieces) (sym c.as_slice.ensures.value)
    (settable_at c.args.changes.now c.loop-index.index c.index-changes-index.result c.requires.settable c.loop-index-test.true c.index-changes-index.is).near

pub loop-index-preserved : goal.loop-index-preserved
loop-index-preserved c =
    let olds = c.args.planes.now in
    let now = c.loop-index.planes in
    let index = c.loop-index.index in
    let new = c.commit.new.self in
    let below : index < length now = omega (arith, c.loop-index.invariant.long, c.requires.one_each) in
    let same = get_or_default now index c.index-planes-index.result no_plane below in
    committed_more index olds now c.args.changes.now new below
    (λ other.
    subst (λ (pieces : List Piece). AreSet (number_on (plane_at now index)) (number_on new) pieces)
    (c.as_slice.ensures.value ∙ pieces_read c.args.changes.now index c.index-changes-index.result other c.loop-index-test.true c.index-changes-index.is)
    (subst (λ (plane : PlaneValue). AreSet (number_on plane) (number_on new) c.as_slice.result.now) same c.commit.ensures))
    c.loop-index.invariant
