use Rattle.cif_writing.proofs.Common.{◌++◌, ◌∷◌, [], ℕ, List, ap, ◌∙◌, err_from_is_err_and, text_of, seen, start_command, name_command}
use Rattle.cif_writing.proofs.SymbolLaws.{calls_too_long, parts_too_long, symbol_written}
use Rattle.cif_writing.proofs.WritingLaws.{passed_on}
use Rattle.cif_writing.proofs.writing.write_symbol.Goals as goal

pub returns-in_err-write_parts-clause-refused : goal.returns-in_err-write_parts-clause-refused
returns-in_err-write_parts-clause-refused c =
    let head = c.in_ok-write_head.ensures
    ∙ ap (λ (name : List ℕ). c.args.out.now.items ++ text_of (start_command c.args.number ∷ name_command name ∷ []))
    (c.bytes.ensures ∙ c.name_of.ensures) in
    passed_on c.from_residual-in_err-write_parts.result c.in_err-write_parts.field-0.0 _
    (err_from_is_err_and c.from_residual-in_err-write_parts.result c.from_residual-in_err-write_parts.ensures.1)
    (λ other. parts_too_long (seen c.args.library.now) c.args.numbers.now c.args.number c.args.cell.0 c.args.out.now.items c.write_head.new.out.items head
    (c.in_err-write_parts.ensures.refused other))

pub returns-in_err-write_calls-clause-refused : goal.returns-in_err-write_calls-clause-refused
returns-in_err-write_calls-clause-refused c =
    let head = c.in_ok-write_head.ensures
    ∙ ap (λ (name : List ℕ). c.args.out.now.items ++ text_of (start_command c.args.number ∷ name_command name ∷ []))
    (c.bytes.ensures ∙ c.name_of.ensures) in
    passed_on c.from_residual-in_err-write_calls.result c.in_err-write_calls.field-0.0 _
    (err_from_is_err_and c.from_residual-in_err-write_calls.result c.from_residual-in_err-write_calls.ensures.1)
    (λ other. calls_too_long (seen c.args.library.now) c.args.numbers.now c.args.number c.args.cell.0 c.args.out.now.items c.write_head.new.out.items
    c.write_parts.new.out.items head c.in_ok-write_parts.ensures.written (c.in_err-write_calls.ensures.refused other))

pub returns-clause-written : goal.returns-clause-written
returns-clause-written c =
    let head = c.in_ok-write_head.ensures
    ∙ ap (λ (name : List ℕ). c.args.out.now.items ++ text_of (start_command c.args.number ∷ name_command name ∷ []))
    (c.bytes.ensures ∙ c.name_of.ensures) in
    symbol_written (seen c.args.library.now) c.args.numbers.now c.args.number c.args.cell.0 c.args.out.now.items c.write_head.new.out.items
    c.write_parts.new.out.items c.write_calls.new.out.items c.write_finish.new.out.items head c.in_ok-write_parts.ensures.written
    c.in_ok-write_calls.ensures.written c.in_ok-write_finish.ensures
