use Rattle.library_commands.proofs.Common.{◌≡◌, Some, sym, subst, rules, Answers, edited_state, state_of, State, LoadMeans}
use Rattle.std.proofs.Common.{IfOk}
use Rattle.library_commands.proofs.command_load.load.Goals as goal

pub returns-in-Some-clause-effect : goal.returns-in-Some-clause-effect
returns-in-Some-clause-effect g c files told =
    let state : state_of c.args.session.now ≡ Some (edited_state c.in-Some.edited) = search rules in
    subst
    (λ (s : State). IfOk c.load_into.result (λ answer.
    Answers (LoadMeans c.args.number s files c.args.cell.now) (Some (edited_state c.load_into.new.edited)) answer
    (g.F.Shelf.fetch_plan c.args.shelf.now) (g.F.Shelf.fetch_plan c.load_into.new.shelf)))
    (sym state) (c.load_into.ensures.effect files told)
