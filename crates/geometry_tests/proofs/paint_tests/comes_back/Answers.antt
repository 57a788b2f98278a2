use Rattle.std.proofs.Common.{◌≡◌, ◌∙◌, List, ℕ, sym, subst}
use Rattle.geo_core.specs.declared.squares.Piece.{Piece}
use Rattle.geo_core.specs.Covering.{is_covered}
use Rattle.tech_model.specs.Columns.{erased_column}
use Rattle.tech_model.specs.declared.raw.TypeRec.{TypeRec}
use Rattle.layout_model.specs.Places.{Place}
use Rattle.cell_paint.specs.Paints.{layout_of, IsSoundPaint}
use Rattle.cell_paint.specs.Pieces.{with_pieces}
use Rattle.cell_paint.proofs.PaintLaws.{changed_outside}
use Rattle.cell_paint.proofs.PieceLaws.{taken_brings_back}
use Rattle.geometry_tests.proofs.paint_tests.comes_back.Goals as goal

pub put_back-requires-clause-sound : goal.put_back-requires-clause-sound
put_back-requires-clause-sound c =
    let before = c.in_ok-cell.cell in
    let after = c.erase.new.self in
    let area = c.args.area in
    let taken = c.in_ok-taken.taken.items in
    let back : (place : Place) → with_pieces area taken (layout_of after) place ≡ layout_of before place =
    taken_brings_back (layout_of before) area taken c.in_ok-taken.ensures.taken (layout_of after) (λ place outside.
    c.in_ok-erase.ensures.erased place
    ∙ changed_outside (erased_column c.args.tech.now c.in-Some.layer.0) (is_covered area) (layout_of before) place outside) in
    subst (λ (pieces : List (ℕ × Piece)). IsSoundPaint after.kinds (with_pieces area pieces (layout_of after))) (sym c.as_slice.ensures.value)
    (subst (λ (kinds : List TypeRec). IsSoundPaint kinds (with_pieces area taken (layout_of after))) (sym c.erase.ensures.kinds)
    (subst (IsSoundPaint before.kinds) (λ i place. sym (back place) i) c.sound.ensures))
