use Rattle.cif_writing.proofs.Common.{◌≡◌, List, ap, subst, ◌∙◌, Rect, IsInUnion, IsStrips, RawTech, seen, view_at, areas_with, HoldsPart}
use Rattle.std.proofs.lemmas.Result.{IfOk-weaker}
use Rattle.cif_writing.proofs.StripLaws.{strips_of_part}
use Rattle.cif_writing.proofs.strips.part_strips.Goals as goal

pub returns : goal.returns
returns c =
    let raw = c.args.library.now.tech in
    let own = (view_at (seen c.args.library.now) c.args.cell.0).own in
    let tiles = c.args.tiles.now in
    let is : c.as_slice.result.now ≡ areas_with raw c.args.part.0 tiles =
    c.as_slice.ensures.value ∙ c.in_ok-areas.ensures ∙ ap (λ (r : RawTech). areas_with r c.args.part.0 tiles) (c.raw.ensures.value ∙ c.tech.ensures) in
    IfOk-weaker c.strips.result (λ found. IsStrips (IsInUnion c.as_slice.result.now) found.items)
    (λ found. IsStrips (HoldsPart raw own c.args.part.0) found.items)
    (λ found are. strips_of_part raw own c.args.part.0 tiles c.requires.tiles raw.types c.requires.part c.sound.ensures found.items
    (subst (λ (l : List Rect). IsStrips (IsInUnion l) found.items) is are)) c.strips.ensures
