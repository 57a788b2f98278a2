-- Lines of squares that offend, for which no shelf has to answer.
use Rattle.std.proofs.Common.{ℕ, List, [], ◌∷◌, map}
use Rattle.geo_core.specs.declared.squares.Rect.{Rect}
use Rattle.tech_model.specs.declared.raw.RawTech.{RawTech}
use Rattle.line_answers.proofs.InsideLaws.{no_lines_inside}
use Rattle.line_answers.specs.LineEffects.{IsOfInside}
use Rattle.library_answers.specs.Offending.{offending_line}

-- those of strips that offend
pub offending_inside : (raw : RawTech) (cell : List ℕ) (strips : List (ℕ × Rect)) → IsOfInside (map (offending_line raw cell) strips)
offending_inside raw cell [] = no_lines_inside
offending_inside raw cell (strip ∷ strips) =
    let rest = offending_inside raw cell strips in
    record { present = rest.present; fits = rest.fits }
