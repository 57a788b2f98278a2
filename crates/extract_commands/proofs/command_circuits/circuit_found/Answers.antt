use Rattle.extract_commands.proofs.Common.{◌≡◌, List, sym, subst, rules, IfOk-weaker, ReportLine, Effect, LibraryParts, seen, Extracting, Done}
use Rattle.extract_commands.proofs.Common.{IsOfInside, edited_state, lines_of, IsWrittenAt, WritesCircuit, IsExtracted, State, both_ok, fresh_below}
use Rattle.extract_commands.proofs.Common.{both_inside, extraction_inside, unclean_inside}
use Rattle.workspace.specs.declared.cells.Edited.{Edited}
use Rattle.extract_commands.proofs.ExtractionCommands.{refuses_cell, writes_cell}
use Rattle.extract_commands.proofs.CircuitLaws.{written_at_inside}
use Rattle.extract_commands.proofs.command_circuits.circuit_found.Goals as goal

pub write_kept-requires-clause-fresh : goal.write_kept-requires-clause-fresh
write_kept-requires-clause-fresh c =
    let old = c.args.edited.now in
    let new = c.extract_cell.new.edited in
    let is = subst (λ (e : Extracting). IsExtracted c.args.number (edited_state old) (edited_state new) c.args.cell.0 e) c.in-Done.is
    c.in_ok-extraction.ensures.extracted in
    fresh_below c.args.number old new c.args.cell.0 c.in-Done.extraction c.in_ok-extraction.ensures.library is

pub returns-in_ok-written-in-Done-clause-effect : goal.returns-in_ok-written-in-Done-clause-effect
returns-in_ok-written-in-Done-clause-effect c =
    let work = edited_state c.args.edited.now in
    let before = c.extract_cell.new.edited in
    let after = edited_state c.write_kept.new.edited in
    let extraction = c.in-Done.extraction in
    let written = c.in_ok-written-in-Done.written in
    let is =
    subst (λ (edited : Edited). IsExtracted c.args.number work (edited_state edited) c.args.cell.0 (Done extraction)) (sym c.write_kept.ensures.same)
    (subst (λ (e : Extracting). IsExtracted c.args.number work (edited_state before) c.args.cell.0 e) c.in-Done.is c.in_ok-extraction.ensures.extracted) in
    let is_written = subst (λ (l : LibraryParts). IsWrittenAt c.args.file (seen l) c.args.cell.0 c.args.name.now written) c.in_ok-extraction.ensures.library
    c.in_ok-written-in-Done.ensures.written in
    both_ok c.answer.result _ _ _
    (λ answer lines stores. writes_cell c.args.file c.args.number c.args.name.now work after c.args.cell.0 extraction written answer is is_written lines stores)
    c.answer.ensures.lines c.answer.ensures.stores

pub returns-in_ok-written-in-Done-clause-inside : goal.returns-in_ok-written-in-Done-clause-inside
returns-in_ok-written-in-Done-clause-inside c =
    let work = edited_state c.args.edited.now in
    let after = edited_state c.extract_cell.new.edited in
    let extraction = c.in-Done.extraction in
    let written = c.in_ok-written-in-Done.written in
    let is = subst (λ (e : Extracting). IsExtracted c.args.number work after c.args.cell.0 e) c.in-Done.is c.in_ok-extraction.ensures.extracted in
    IfOk-weaker c.answer.result _ _
    (λ answer lines. subst (λ (all : List ReportLine). IsOfInside all) (sym lines)
    (both_inside extraction.lines (lines_of c.args.number written) (extraction_inside work c.args.cell.0 extraction is.0)
    (written_at_inside c.args.file c.args.number (seen c.extract_cell.new.edited.library) c.args.cell.0 c.args.name.now written
    c.in_ok-written-in-Done.ensures.written)))
    c.answer.ensures.lines

pub returns-in-Refused-clause-effect : goal.returns-in-Refused-clause-effect
returns-in-Refused-clause-effect c =
    let work = edited_state c.args.edited.now in
    let after = edited_state c.extract_cell.new.edited in
    let lines = c.in-Refused.lines in
    let refuses = subst (λ (e : Extracting). IsExtracted c.args.number work after c.args.cell.0 e) c.in-Refused.is c.in_ok-extraction.ensures.extracted in
    let told : c.told.result.lines.items ≡ lines = search rules in
    let Means : Effect State → Type 0 = λ effect. WritesCircuit c.args.file c.args.number c.args.name.now work c.args.cell.0 effect in
    refuses_cell c.args.number work after c.args.cell.0 lines Means c.told.result refuses told c.told.ensures.stores

pub returns-in-Refused-clause-inside : goal.returns-in-Refused-clause-inside
returns-in-Refused-clause-inside c =
    let work = edited_state c.args.edited.now in
    let after = edited_state c.extract_cell.new.edited in
    let lines = c.in-Refused.lines in
    let refuses = subst (λ (e : Extracting). IsExtracted c.args.number work after c.args.cell.0 e) c.in-Refused.is c.in_ok-extraction.ensures.extracted in
    let told : c.told.result.lines.items ≡ lines = search rules in
    subst (λ (all : List ReportLine). IsOfInside all) (sym told) (unclean_inside c.args.number work after c.args.cell.0 lines refuses)
