use Rattle.library_commands.proofs.Common.{◌≡◌, Some, sym, subst, rules, Answers, edited_state, state_of, State, CheckMeans}
use Rattle.std.proofs.Common.{IfOk}
use Rattle.library_commands.proofs.command_checks.check.Goals as goal

pub returns-in-Some-clause-effect : goal.returns-in-Some-clause-effect
returns-in-Some-clause-effect g c files told =
    let state : state_of c.args.session.now ≡ Some (edited_state c.in-Some.edited) = search rules in
    subst
    (λ (s : State). IfOk c.check_named.result (λ answer.
    Answers (CheckMeans c.args.number s files c.args.name.now c.args.file.now) s answer
    (g.F.Shelf.fetch_plan c.args.shelf.now) (g.F.Shelf.fetch_plan c.check_named.new.shelf)))
    (sym state) (c.check_named.ensures.effect files told)
