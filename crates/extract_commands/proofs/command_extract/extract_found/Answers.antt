use Rattle.extract_commands.proofs.Common.{◌≡◌, ◌∷◌, [], List, sym, subst, rules, IfOk-weaker, ReportLine, Effect, Extracting, IsOfInside, reply}
use Rattle.extract_commands.proofs.Common.{edited_state, ExtractsCell, extracted_text, IsExtracted, State, both_ok, both_inside, extraction_inside}
use Rattle.extract_commands.proofs.Common.{unclean_inside}
use Rattle.extract_commands.proofs.ExtractionCommands.{extracts_cell, refuses_cell}
use Rattle.line_answers.proofs.InsideLaws.{no_lines_inside, reply_inside}
use Rattle.extract_commands.proofs.command_extract.extract_found.Goals as goal

pub returns-in-Done-clause-effect : goal.returns-in-Done-clause-effect
returns-in-Done-clause-effect c =
    let work = edited_state c.args.edited.now in
    let after = edited_state c.extract_cell.new.edited in
    let extraction = c.in-Done.extraction in
    let is = subst (λ (e : Extracting). IsExtracted c.args.number work after c.args.cell.0 e) c.in-Done.is c.in_ok-extraction.ensures.extracted in
    both_ok c.answer.result _ _ _
    (λ answer lines stores. extracts_cell c.args.number c.args.name.now work after c.args.cell.0 extraction answer is lines stores)
    c.answer.ensures.lines c.answer.ensures.stores

pub returns-in-Done-clause-inside : goal.returns-in-Done-clause-inside
returns-in-Done-clause-inside c =
    let work = edited_state c.args.edited.now in
    let after = edited_state c.extract_cell.new.edited in
    let extraction = c.in-Done.extraction in
    let is = subst (λ (e : Extracting). IsExtracted c.args.number work after c.args.cell.0 e) c.in-Done.is c.in_ok-extraction.ensures.extracted in
    IfOk-weaker c.answer.result _ _
    (λ answer lines. subst (λ (all : List ReportLine). IsOfInside all) (sym lines)
    (both_inside extraction.lines (reply (extracted_text c.args.name.now extraction.count) ∷ [])
    (extraction_inside work c.args.cell.0 extraction is.0) (reply_inside (extracted_text c.args.name.now extraction.count) [] no_lines_inside)))
    c.answer.ensures.lines

pub returns-in-Refused-clause-effect : goal.returns-in-Refused-clause-effect
returns-in-Refused-clause-effect c =
    let work = edited_state c.args.edited.now in
    let after = edited_state c.extract_cell.new.edited in
    let lines = c.in-Refused.lines in
    let refuses = subst (λ (e : Extracting). IsExtracted c.args.number work after c.args.cell.0 e) c.in-Refused.is c.in_ok-extraction.ensures.extracted in
    let told : c.told.result.lines.items ≡ lines = search rules in
    refuses_cell c.args.number work after c.args.cell.0 lines (λ (effect : Effect State). ExtractsCell c.args.name.now work c.args.cell.0 effect) c.told.result
    refuses told c.told.ensures.stores

pub returns-in-Refused-clause-inside : goal.returns-in-Refused-clause-inside
returns-in-Refused-clause-inside c =
    let work = edited_state c.args.edited.now in
    let after = edited_state c.extract_cell.new.edited in
    let lines = c.in-Refused.lines in
    let refuses = subst (λ (e : Extracting). IsExtracted c.args.number work after c.args.cell.0 e) c.in-Refused.is c.in_ok-extraction.ensures.extracted in
    let told : c.told.result.lines.items ≡ lines = search rules in
    subst (λ (all : List ReportLine). IsOfInside all) (sym told) (unclean_inside c.args.number work after c.args.cell.0 lines refuses)
