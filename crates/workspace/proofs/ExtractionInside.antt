-- Lines of extractions, for which no shelf has to answer.
use Rattle.workspace.proofs.Common.{ℕ, List, [], ◌∷◌, map, sym, ap, subst, Store, LibraryView, view_at, Extraction, IsExtracted, State, Workspace}
use Rattle.std.proofs.Common.{filter}
use Rattle.session_model.specs.declared.report.ReportLine.{ReportLine}
use Rattle.session_model.specs.Effects.{Effect}
use Rattle.line_answers.proofs.InsideLaws.{both_inside, no_lines_inside, reply_inside}
use Rattle.line_answers.specs.LineEffects.{IsOfInside}
use Rattle.line_answers.specs.Refusals.{refusal_line}
use Rattle.library_answers.proofs.OffendingLaws.{offending_inside}
use Rattle.library_answers.specs.Offending.{offending_line}
use Rattle.workspace.specs.declared.extractions.Extracting.TheVariants.{Refused}
use Rattle.workspace.specs.Extractions.{IsExtraction, MakesRecords, unattached_line, unclean_refusal}

-- the lines of labels that name nothing
unattached_inside : (cell : List ℕ) (texts : List (List ℕ)) → IsOfInside (map (unattached_line cell) texts)
unattached_inside cell [] = no_lines_inside
unattached_inside cell (text ∷ texts) = reply_inside _ _ (unattached_inside cell texts)

-- those of records that are made one after another
making_inside : (library : LibraryView) (cells : List ℕ) (lines : List ReportLine) (stores : List Store) → MakesRecords library cells lines stores
    → IsOfInside lines
making_inside library [] lines stores (none, no_stores) = subst (λ (all : List ReportLine). IsOfInside all) (sym none) no_lines_inside
making_inside library (cell ∷ cells) lines stores (first, store, rest, others, made, later, lines_are, stores_are) =
    subst (λ (all : List ReportLine). IsOfInside all) (sym lines_are)
    (both_inside first rest
    (subst (λ (all : List ReportLine). IsOfInside all) (sym made.lines_are) (unattached_inside (view_at library cell).name made.texts))
    (making_inside library cells rest others later))

-- those of an extraction
pub extraction_inside : (work : Workspace) (cell : ℕ) (extraction : Extraction) → IsExtraction work cell extraction → IsOfInside extraction.lines
extraction_inside work cell extraction is =
    making_inside work.editing.library (filter work.dirty is.order) extraction.lines extraction.stores is.makes

-- those that refuse an extraction
pub unclean_inside : (number : ℕ) (work after : Workspace) (cell : ℕ) (lines : List ReportLine) → IsExtracted number work after cell (Refused lines)
    → IsOfInside lines
unclean_inside number work after cell lines refuses =
    let is = refuses [] in
    let library : LibraryView = work.editing.library in
    let name : List ℕ = (view_at library is.cell).name in
    let rest = offending_inside library.tech name is.squares in
    let told : IsOfInside (refusal_line number (unclean_refusal name) ∷ map (offending_line library.tech name) is.squares) =
    record { present = rest.present; fits = rest.fits } in
    subst (λ (all : List ReportLine). IsOfInside all) (sym (ap (λ (effect : Effect State). effect.lines) is.is)) told
