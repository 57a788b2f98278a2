use Rattle.std.proofs.Common.{◌≡◌, ℕ, List, rules, subst}
use Rattle.std.proofs.lemmas.Result.{IfOk-weaker}
use Rattle.session_model.specs.Effects.{AnswersFetching}
use Rattle.session_model.specs.Fetches.{text_in}
use Rattle.cell_library.specs.Libraries.{seen}
use Rattle.drc_commands.specs.CommandDrc.{ChecksFetched, drc_file}
use Rattle.drc_commands.proofs.command_drc.drc.Goals as goal

pub returns-clause-effect : goal.returns-clause-effect
returns-clause-effect g c files told =
    let file : c.in_ok-file.file ≡ drc_file c.args.file.now = search rules in
    IfOk-weaker c.check_fetched.result _ _
    (λ answer (fetched, means, asked). (
      fetched,
      subst
          (λ (name : List ℕ). AnswersFetching fetched
          (ChecksFetched c.args.number (seen c.args.library.now) c.args.cell.0 c.args.name.now name (text_in files name)) tt answer)
          file means,
      asked,
    ))
    (c.check_fetched.ensures.effect files told)
