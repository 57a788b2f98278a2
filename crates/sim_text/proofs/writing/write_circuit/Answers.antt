use Rattle.sim_text.proofs.Common.{ℕ, ℤ, List, ◌++◌, ◌∙◌, ap, subst, SimFet, Fet, saying_cap, saying_alias, lines_saying, IsTooLong}
use Rattle.std.proofs.lemmas.Result.{err_from_is_err_and}
use Rattle.sim_text.proofs.AppendedText.{circuit_appended, fets_too_long, caps_too_long, aliases_too_long}
use Rattle.sim_text.proofs.writing.write_circuit.Goals as goal

pub returns-in_err-write_lines-clause-refused : goal.returns-in_err-write_lines-clause-refused
returns-in_err-write_lines-clause-refused c =
    let p = err_from_is_err_and c.from_residual-in_err-write_lines.result c.from_residual-in_err-write_lines.ensures.1 in
    let fault = c.in_err-write_lines.field-0.0 in
    let too_long = λ (items : List SimFet). IsTooLong fault (c.append_header.new.out.items ++ lines_saying Fet items) in
    rw (p.1, p.2) (λ some. fets_too_long fault c.args.sim.now _ _ c.in_ok-append_header.ensures
    (subst too_long c.items.ensures (c.in_err-write_lines.ensures.refused some)))

pub returns-in_err-write_lines-2-clause-refused : goal.returns-in_err-write_lines-2-clause-refused
returns-in_err-write_lines-2-clause-refused c =
    let p = err_from_is_err_and c.from_residual-in_err-write_lines-2.result c.from_residual-in_err-write_lines-2.ensures.1 in
    let fault = c.in_err-write_lines-2.field-0.0 in
    let too_long = λ (items : List (List ℕ × ℤ)). IsTooLong fault (c.write_lines.new.out.items ++ lines_saying saying_cap items) in
    rw (p.1, p.2) (λ some. caps_too_long fault c.args.sim.now _ _ _ c.in_ok-append_header.ensures
    (c.in_ok-write_lines.ensures.written ∙ ap (λ items. c.append_header.new.out.items ++ lines_saying Fet items) c.items.ensures)
    (subst too_long c.items-2.ensures (c.in_err-write_lines-2.ensures.refused some)))

pub returns-in_err-write_lines-3-clause-refused : goal.returns-in_err-write_lines-3-clause-refused
returns-in_err-write_lines-3-clause-refused c =
    let p = err_from_is_err_and c.from_residual-in_err-write_lines-3.result c.from_residual-in_err-write_lines-3.ensures.1 in
    let fault = c.in_err-write_lines-3.field-0.0 in
    let too_long = λ (items : List (List ℕ × List ℕ)). IsTooLong fault (c.write_lines-2.new.out.items ++ lines_saying saying_alias items) in
    rw (p.1, p.2) (λ some. aliases_too_long fault c.args.sim.now _ _ _ _ c.in_ok-append_header.ensures
    (c.in_ok-write_lines.ensures.written ∙ ap (λ items. c.append_header.new.out.items ++ lines_saying Fet items) c.items.ensures)
    (c.in_ok-write_lines-2.ensures.written ∙ ap (λ items. c.write_lines.new.out.items ++ lines_saying saying_cap items) c.items-2.ensures)
    (subst too_long c.items-3.ensures
    (c.in_err-write_lines-3.ensures.refused some)))

pub returns-clause-written : goal.returns-clause-written
returns-clause-written c =
    circuit_appended c.args.sim.now _ _ _ _ _ c.in_ok-append_header.ensures
    (c.in_ok-write_lines.ensures.written ∙ ap (λ items. c.append_header.new.out.items ++ lines_saying Fet items) c.items.ensures)
    (c.in_ok-write_lines-2.ensures.written ∙ ap (λ items. c.write_lines.new.out.items ++ lines_saying saying_cap items) c.items-2.ensures)
    (c.in_ok-write_lines-3.ensures.written ∙ ap (λ items. c.write_lines-2.new.out.items ++ lines_saying saying_alias items) c.items-3.ensures)
