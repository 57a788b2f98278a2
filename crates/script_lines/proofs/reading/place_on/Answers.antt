use Rattle.script_lines.proofs.Common.{◌∙◌, ap, ℤ, List, Ok, command_with, given_to}
use Rattle.script_lines.specs.declared.commands.Command.TheVariants.{Place}
use Rattle.script_lines.specs.declared.verbs.Verb.TheVariants as verb
use Rattle.script_lines.proofs.SixLaws.{six_at-place}
use Rattle.script_lines.proofs.reading.place_on.Goals as goal

pub returns-clause-read : goal.returns-clause-read
returns-clause-read c =
    let found = c.in_ok-cell in
    ap (given_to (command_with verb.Place)) found.ensures.read
    ∙ ap (λ (six : List ℤ). Ok (Place found.cell found.id six)) (six_at-place found.cell found.id found.six found.ensures.size)
