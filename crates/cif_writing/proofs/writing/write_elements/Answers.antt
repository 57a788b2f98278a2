use Rattle.cif_writing.proofs.Common.{◌≡◌, ◌++◌, List, map, subst, Transform, text_of, call_command}
use Rattle.std.specs.Prelude.{OnOk}
use Rattle.cif_writing.proofs.SymbolLaws.{elements_of_grid}
use Rattle.cif_writing.proofs.writing.write_elements.Goals as goal

pub returns-in-Some-clause-written : goal.returns-in-Some-clause-written
returns-in-Some-clause-written c =
    subst (λ (elements : List Transform). OnOk c.write_grid.result
    (c.write_grid.new.out.items ≡ c.args.out.now.items ++ text_of (map (call_command c.args.number) elements)))
    (elements_of_grid c.args.used.now c.in-Some.grid c.in-Some.is) c.write_grid.ensures.written
