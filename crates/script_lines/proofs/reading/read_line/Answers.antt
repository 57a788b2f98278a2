use Rattle.script_lines.proofs.FormLaws.{command_on_formed}
use Rattle.script_lines.proofs.reading.read_line.Goals as goal

pub returns-clause-formed : goal.returns-clause-formed
returns-clause-formed c =
    let found = c.in_ok-command_on in
    command_on_formed c.in-Some-of.verb c.in-Some.rest.now found.field-0 found.ensures.read
