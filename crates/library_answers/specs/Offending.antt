-- Lines that tell which squares offend.
use Rattle.std.specs.Prelude.{ℕ, List, ◌++◌, codes}
use Rattle.geo_core.specs.declared.squares.Rect.{Rect}
use Rattle.tech_model.specs.declared.raw.RawTech.{RawTech}
use Rattle.tech_model.specs.Types.{plane_name}
use Rattle.session_model.specs.declared.report.LineKind.TheVariants.{Offending}
use Rattle.session_model.specs.declared.report.ReportLine.{ReportLine}
use Rattle.line_answers.specs.Texts.{bounds_text}

-- `offending CELL PLANE XLO YLO XHI YHI`
abbrev pub offending_line : RawTech → List ℕ → ℕ × Rect → ReportLine
offending_line raw cell strip =
    record { kind = Offending; text = codes "offending " ++ cell ++ codes " " ++ plane_name raw strip.0 ++ bounds_text strip.1 }
