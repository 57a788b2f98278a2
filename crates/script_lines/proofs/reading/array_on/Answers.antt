use Rattle.script_lines.proofs.Common.{◌∙◌, ap, ℤ, List, Ok, command_with, given_to}
use Rattle.script_lines.specs.declared.commands.Command.TheVariants.{Array}
use Rattle.script_lines.specs.declared.verbs.Verb.TheVariants as verb
use Rattle.script_lines.proofs.SixLaws.{six_at-array}
use Rattle.script_lines.proofs.reading.array_on.Goals as goal

pub returns-clause-read : goal.returns-clause-read
returns-clause-read c =
    let found = c.in_ok-id in
    ap (given_to (command_with verb.Array)) found.ensures.read
    ∙ ap (λ (six : List ℤ). Ok (Array found.id six)) (six_at-array found.id found.six found.ensures.size)
