use Rattle.library_commands.proofs.Common.{◌≡◌, [], Some, refl, rules, sym, subst, IfOk, IfOk-weaker, AnswersAlone, seen, cell_named, found_there}
use Rattle.library_commands.proofs.Common.{answers_on_cell, edited_state, state_of, State}
use Rattle.library_commands.specs.CommandLooks.{LookMeans, LooksAt}
use Rattle.library_commands.proofs.command_looks.look_at.Goals as goal

pub tell-requires : goal.tell-requires
tell-requires c =
    let named : cell_named (seen c.in-Some.edited.library) c.args.name.now ≡ Some c.in-Some-find.cell.0 = search rules in
    record { cell = found_there c.in-Some.edited.library c.args.name.now c.in-Some-find.cell named }

pub returns-clause-effect : goal.returns-clause-effect
returns-clause-effect c =
    let edited = c.in-Some.edited in
    let named : cell_named (seen edited.library) c.args.name.now ≡ Some c.in-Some-find.cell.0 = search rules in
    let state : state_of c.args.session.now ≡ Some (edited_state edited) = search rules in
    subst (λ (s : State). IfOk c.tell.result (AnswersAlone (LookMeans c.args.at c.args.number s c.args.name.now) s)) (sym state)
    (IfOk-weaker c.tell.result _ _
    (λ answer tells. answers_on_cell c.args.number (edited_state edited) c.args.name.now (LooksAt c.args.at c.args.name.now) (Some (edited_state edited))
    c.in-Some-find.cell.0 answer [] named (record { lines = answer.lines.items; stores = answer.stores.items; tells = tells; is = refl }))
    c.tell.ensures.tells)
