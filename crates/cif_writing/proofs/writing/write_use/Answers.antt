use Rattle.cif_writing.proofs.Common.{◌≡◌, ◌++◌, map, on_ok_weaker, text_of, seen, call_command, elements_of_use, IsUse, AreTooLong, IsTooLongWith}
use Rattle.cif_writing.proofs.SymbolLaws.{use_too_long, use_written}
use Rattle.cif_writing.proofs.WritingLaws.{refused_weaker}
use Rattle.cif_writing.proofs.writing.write_use.Goals as goal

pub returns-in-Some-clause-written : goal.returns-in-Some-clause-written
returns-in-Some-clause-written c =
    on_ok_weaker c.write_elements.result
    (λ (h : c.write_elements.new.out.items
    ≡ c.args.out.now.items ++ text_of (map (call_command c.of_cell.result) (elements_of_use c.args.used.now))).
    use_written c.args.library.now c.lawful.ensures c.args.numbers.now c.args.used.now c.of_cell.result c.in-Some.field-0 c.of_cell.ensures
    c.in-Some.ensures c.args.out.now.items c.write_elements.new.out.items h) c.write_elements.ensures.written

pub returns-in-Some-clause-refused : goal.returns-in-Some-clause-refused
returns-in-Some-clause-refused c =
    refused_weaker c.write_elements.result (IsTooLongWith (map (call_command c.of_cell.result) (elements_of_use c.args.used.now)) c.args.out.now.items)
    (AreTooLong (IsUse (seen c.args.library.now) c.args.numbers.now c.args.used.now) c.args.out.now.items)
    (use_too_long c.args.library.now c.lawful.ensures c.args.numbers.now c.args.used.now c.of_cell.result c.in-Some.field-0 c.of_cell.ensures
    c.in-Some.ensures c.requires.child c.args.out.now.items) c.write_elements.ensures.refused
