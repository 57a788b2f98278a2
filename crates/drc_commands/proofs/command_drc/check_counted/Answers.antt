use Rattle.std.proofs.lemmas.Result.{IfOk-weaker}
use Rattle.drc_commands.proofs.DrcLaws.{lines_inside}
use Rattle.drc_commands.proofs.command_drc.check_counted.Goals as goal

pub returns-clause-inside : goal.returns-clause-inside
returns-clause-inside g c =
    IfOk-weaker c.check_lines.result _ _ (λ lines are. lines_inside c.tech.result.now _ _ _ lines.items are) c.check_lines.ensures
