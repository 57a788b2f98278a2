use Rattle.run_plane.proofs.Common.{◌≡◌, List, ◌∙◌, subst, Rect, IsStrips, IsInUnion, rects_with, IsInPieces}
use Rattle.std.specs.Prelude.{Vec}
use Rattle.std.specs.declared.alloc.Global.{Global}
use Rattle.std.proofs.lemmas.Result.{IfOk-weaker}
use Rattle.run_plane.proofs.TileLaws.{strips_of_pieces}
use Rattle.run_plane.proofs.listings.strips_of.Goals as goal

pub returns : goal.returns
returns c =
    let pieces = c.args.pieces.now in
    let value = c.args.value in
    let areas : c.as_slice.result.now ≡ rects_with pieces value = c.as_slice.ensures.value ∙ c.in_ok-areas.ensures in
    IfOk-weaker c.strips.result (λ (v : Vec Rect Global). IsStrips (IsInUnion c.as_slice.result.now) v.items) (λ v. IsStrips (IsInPieces pieces value) v.items)
    (λ v strips. strips_of_pieces pieces value v.items (subst (λ (a : List Rect). IsStrips (IsInUnion a) v.items) areas strips)) c.strips.ensures
