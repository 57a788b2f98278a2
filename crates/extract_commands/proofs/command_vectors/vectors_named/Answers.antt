use Rattle.extract_commands.proofs.Common.{List, ℕ, subst, ◌≡◌, Some, rules, seen, cell_named, found_there, IfOk-weaker, AnswersFetching, Effect}
use Rattle.extract_commands.proofs.Common.{text_in, vec_file, edited_state, State, Workspace, answers_on_cell, RunsFetched}
use Rattle.extract_commands.proofs.command_vectors.vectors_named.Goals as goal

pub fetch_vectors-requires-clause-cell : goal.fetch_vectors-requires-clause-cell
fetch_vectors-requires-clause-cell g c =
    let named : cell_named (seen c.args.edited.now.library) c.args.name.now ≡ Some c.in-Some.cell.0 = search rules in
    found_there c.args.edited.now.library c.args.name.now c.in-Some.cell named

pub returns-in_ok-file-in-Some-clause-effect : goal.returns-in_ok-file-in-Some-clause-effect
returns-in_ok-file-in-Some-clause-effect g c files told =
    let named : cell_named (seen c.args.edited.now.library) c.args.name.now ≡ Some c.in-Some.cell.0 = search rules in
    let file : c.in_ok-file-in-Some.file ≡ vec_file c.args.file.now = search rules in
    let work = edited_state c.args.edited.now in
    let after : State = Some (edited_state c.fetch_vectors.new.edited) in
    let Means : List ℕ → Workspace → ℕ → Effect State
    → Type 0 = λ file. RunsFetched c.args.question c.args.budget c.args.number c.args.name.now file (text_in files file) in
    IfOk-weaker c.fetch_vectors.result _ _
    (λ answer (fetched, means, asked). (
      fetched,
      answers_on_cell c.args.number work c.args.name.now (Means (vec_file c.args.file.now)) after c.in-Some.cell.0 answer fetched named
          (subst (λ (name : List ℕ). AnswersFetching fetched (Means name work c.in-Some.cell.0) after answer) file means),
      asked,
    ))
    (c.fetch_vectors.ensures.effect files told)
