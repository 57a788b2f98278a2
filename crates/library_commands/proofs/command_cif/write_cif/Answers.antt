use Rattle.library_commands.proofs.Common.{◌≡◌, [], Some, refl, rules, sym, subst, IfOk, IfOk-weaker, AnswersAlone, seen, cell_named, found_there}
use Rattle.library_commands.proofs.Common.{answers_on_cell, edited_state, state_of, State}
use Rattle.library_commands.specs.CommandCif.{WriteMeans, WritesIn}
use Rattle.library_commands.proofs.command_cif.write_cif.Goals as goal

pub cif-requires : goal.cif-requires
cif-requires c =
    let named : cell_named (seen c.in-Some.edited.library) c.args.name.now ≡ Some c.in-Some-find.cell.0 = search rules in
    found_there c.in-Some.edited.library c.args.name.now c.in-Some-find.cell named

pub returns-clause-effect : goal.returns-clause-effect
returns-clause-effect c =
    let edited = c.in-Some.edited in
    let named : cell_named (seen edited.library) c.args.name.now ≡ Some c.in-Some-find.cell.0 = search rules in
    let state : state_of c.args.session.now ≡ Some (edited_state edited) = search rules in
    subst (λ (s : State). IfOk c.cif.result (AnswersAlone (WriteMeans c.args.number s c.args.name.now) s)) (sym state)
    (IfOk-weaker c.cif.result _ _
    (λ answer means. answers_on_cell c.args.number (edited_state edited) c.args.name.now (WritesIn c.args.number c.args.name.now) (Some (edited_state edited))
    c.in-Some-find.cell.0 answer [] named (refl, means))
    c.cif.ensures.effect)
