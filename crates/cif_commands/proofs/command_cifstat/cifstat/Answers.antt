use Rattle.cif_commands.proofs.Common.{◌≡◌, ℕ, List, rules, subst, IfOk-weaker, AnswersFetching, text_in, cif_file, MeasuresFetched}
use Rattle.cif_commands.proofs.command_cifstat.cifstat.Goals as goal

pub returns-clause-effect : goal.returns-clause-effect
returns-clause-effect g c files told =
    let file : c.in_ok-file.file ≡ cif_file c.args.name.now = search rules in
    IfOk-weaker c.measure_fetched.result _ _
    (λ answer (fetched, means, asked). (
      fetched,
      subst
          (λ (name : List ℕ). AnswersFetching fetched (MeasuresFetched c.args.number c.args.name.now name (text_in files name)) tt answer)
          file means,
      asked,
    ))
    (c.measure_fetched.ensures.effect files told)
