use Rattle.magex_top.proofs.Common.{◌≡◌, Option, Some, sym, subst, Result, Ok, Answers, Command, LineFault, command_of, state_of, ReadLineMeans}
use Rattle.std.proofs.Common.{IfOk, rules}
use Rattle.magex_top.proofs.session.answer_line.Goals as goal

pub returns-in-Ok-Some-clause-effect : goal.returns-in-Ok-Some-clause-effect
returns-in-Ok-Some-clause-effect g c files told =
    let is : command_of c.args.line.now ≡ Ok (Some c.in-Ok-Some.command) = search rules in
    subst
    (λ (read : Result (Option Command) LineFault). IfOk c.answer.result (λ answer.
    Answers (ReadLineMeans c.args.budget c.args.number (state_of c.args.session.now) files read) (state_of c.answer.new.session) answer
    (g.F.Shelf.fetch_plan c.args.shelf.now) (g.F.Shelf.fetch_plan c.answer.new.shelf)))
    (sym is) (c.answer.ensures.effect files told)
