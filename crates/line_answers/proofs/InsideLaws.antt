-- Lines that no shelf has to answer for.
use Rattle.std.proofs.Common.{◌∙◌, ℕ, List, [], ◌∷◌, ◌++◌, refl, ap}
use Rattle.std.proofs.lemmas.List.{map-append}
use Rattle.std.proofs.lemmas.List.Folds.{list_any-append}
use Rattle.std.specs.List.{list_any}
use Rattle.session_model.specs.declared.report.ReportLine.{ReportLine}
use Rattle.session_model.specs.Causes.{line_kinds}
use Rattle.session_model.specs.Reports.{is_for_absent, is_for_too_long}
use Rattle.line_answers.specs.LineEffects.{IsOfInside, reply}

-- no line
pub no_lines_inside : IsOfInside []
no_lines_inside = record { present = refl; fits = refl }

-- a reply, and what is behind it
pub reply_inside : (text : List ℕ) (lines : List ReportLine) → IsOfInside lines → IsOfInside (reply text ∷ lines)
reply_inside text lines rest = record { present = rest.present; fits = rest.fits }

-- some lines and others behind them
pub both_inside : (first rest : List ReportLine) → IsOfInside first → IsOfInside rest → IsOfInside (first ++ rest)
both_inside first rest here there = record {
  present = ap (list_any is_for_absent) (map-append (λ (line : ReportLine). line.kind) first rest)
      ∙ list_any-append is_for_absent (line_kinds first) (line_kinds rest) ∙ rw here.present there.present;
  fits = ap (list_any is_for_too_long) (map-append (λ (line : ReportLine). line.kind) first rest)
      ∙ list_any-append is_for_too_long (line_kinds first) (line_kinds rest) ∙ rw here.fits there.fits;
}
