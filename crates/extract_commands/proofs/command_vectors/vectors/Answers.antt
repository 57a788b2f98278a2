use Rattle.extract_commands.proofs.Common.{◌≡◌, Some, sym, subst, rules, edited_state, State, VectorsMeans}
use Rattle.std.proofs.Common.{IfOk}
use Rattle.session_model.specs.Effects.{Answers}
use Rattle.workspace.specs.KeptSessions.{state_of}
use Rattle.extract_commands.proofs.command_vectors.vectors.Goals as goal

pub returns-in-Some-clause-effect : goal.returns-in-Some-clause-effect
returns-in-Some-clause-effect g c files told =
    let state : state_of c.args.session.now ≡ Some (edited_state c.in-Some.edited) = search rules in
    subst
    (λ (s : State). IfOk c.vectors_named.result (λ answer.
    Answers (VectorsMeans c.args.question c.args.budget c.args.number s files c.args.name.now c.args.file.now)
    (Some (edited_state c.vectors_named.new.edited)) answer
    (g.F.Shelf.fetch_plan c.args.shelf.now) (g.F.Shelf.fetch_plan c.vectors_named.new.shelf)))
    (sym state) (c.vectors_named.ensures.effect files told)
