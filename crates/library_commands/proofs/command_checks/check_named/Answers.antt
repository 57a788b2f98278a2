use Rattle.library_commands.proofs.Common.{◌≡◌, Some, refl, rules, IfOk-weaker, seen, cell_named, found_there, answers_on_cell, edited_state}
use Rattle.library_commands.proofs.Common.{ChecksIn}
use Rattle.library_commands.proofs.command_checks.check_named.Goals as goal

pub drc-requires : goal.drc-requires
drc-requires g c =
    let named : cell_named (seen c.args.edited.now.library) c.args.name.now ≡ Some c.in-Some.cell.0 = search rules in
    found_there c.args.edited.now.library c.args.name.now c.in-Some.cell named

pub returns-in-Some-clause-effect : goal.returns-in-Some-clause-effect
returns-in-Some-clause-effect g c files told =
    let named : cell_named (seen c.args.edited.now.library) c.args.name.now ≡ Some c.in-Some.cell.0 = search rules in
    let work = edited_state c.args.edited.now in
    IfOk-weaker c.drc.result _ _
    (λ answer (fetched, means, asked). (
      fetched,
      answers_on_cell c.args.number work c.args.name.now (ChecksIn c.args.number files c.args.name.now c.args.file.now) (Some work) c.in-Some.cell.0 answer
          fetched named (refl, means),
      asked,
    ))
    (c.drc.ensures.effect files told)
