use Rattle.extract_commands.proofs.Common.{◌≡◌, ◌++◌, List, inl, sym, subst, rules, ReportLine, LibraryParts, seen, Extracting, Done, IsOfInside}
use Rattle.extract_commands.proofs.Common.{edited_state, TellsAt, IsExtracted, fresh_below, both_inside, extraction_inside, unclean_inside}
use Rattle.workspace.specs.declared.cells.Edited.{Edited}
use Rattle.extract_commands.proofs.CellRunLaws.{runs_cell}
use Rattle.extract_commands.proofs.cell_runs.run_extracted.Goals as goal

pub run_kept-requires-clause-fresh : goal.run_kept-requires-clause-fresh
run_kept-requires-clause-fresh c =
    let old = c.args.edited.now in
    let new = c.extract_cell.new.edited in
    let is = subst (λ (e : Extracting). IsExtracted c.args.number (edited_state old) (edited_state new) c.args.cell.0 e) c.in-Done.is
    c.in_ok-extraction.ensures.extracted in
    fresh_below c.args.number old new c.args.cell.0 c.in-Done.extraction c.in_ok-extraction.ensures.library is

pub returns-in_ok-joined-in-Done-clause-effect : goal.returns-in_ok-joined-in-Done-clause-effect
returns-in_ok-joined-in-Done-clause-effect c fetched =
    let work = edited_state c.args.edited.now in
    let before = c.extract_cell.new.edited in
    let after = edited_state c.run_kept.new.edited in
    let extraction = c.in-Done.extraction in
    let told = c.in_ok-lines-in-Done.lines.items in
    let is =
    subst (λ (edited : Edited). IsExtracted c.args.number work (edited_state edited) c.args.cell.0 (Done extraction)) (sym c.run_kept.ensures.same)
    (subst (λ (e : Extracting). IsExtracted c.args.number work (edited_state before) c.args.cell.0 e) c.in-Done.is c.in_ok-extraction.ensures.extracted) in
    let tells = subst (λ (l : LibraryParts). TellsAt c.args.run.now c.args.budget c.args.number (seen l) c.args.cell.0 told) c.in_ok-extraction.ensures.library
    c.in_ok-lines-in-Done.ensures.tells in
    let lines : c.in_ok-joined-in-Done.field-0.items ≡ extraction.lines ++ told = search rules in
    let stores : c.into_vec.result.items ≡ extraction.stores = search rules in
    inl (runs_cell c.args.run.now c.args.budget c.args.number fetched work after c.args.cell.0 extraction told c.in_ok-joined-in-Done.field-0.items
    c.into_vec.result.items is tells lines stores)

pub returns-in_ok-joined-in-Done-clause-inside : goal.returns-in_ok-joined-in-Done-clause-inside
returns-in_ok-joined-in-Done-clause-inside c =
    let work = edited_state c.args.edited.now in
    let after = edited_state c.extract_cell.new.edited in
    let extraction = c.in-Done.extraction in
    let told = c.in_ok-lines-in-Done.lines.items in
    let is = subst (λ (e : Extracting). IsExtracted c.args.number work after c.args.cell.0 e) c.in-Done.is c.in_ok-extraction.ensures.extracted in
    let lines : c.in_ok-joined-in-Done.field-0.items ≡ extraction.lines ++ told = search rules in
    subst (λ (all : List ReportLine). IsOfInside all) (sym lines)
    (both_inside extraction.lines told (extraction_inside work c.args.cell.0 extraction is.0) c.in_ok-lines-in-Done.ensures.inside)

pub returns-in-Refused-clause-inside : goal.returns-in-Refused-clause-inside
returns-in-Refused-clause-inside c =
    let work = edited_state c.args.edited.now in
    let after = edited_state c.extract_cell.new.edited in
    let lines = c.in-Refused.lines in
    let refuses = subst (λ (e : Extracting). IsExtracted c.args.number work after c.args.cell.0 e) c.in-Refused.is c.in_ok-extraction.ensures.extracted in
    let told : c.told.result.lines.items ≡ lines = search rules in
    subst (λ (all : List ReportLine). IsOfInside all) (sym told) (unclean_inside c.args.number work after c.args.cell.0 lines refuses)
