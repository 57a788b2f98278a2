use Rattle.extract_commands.proofs.Common.{◌≡◌, ℕ, List, [], ◌∷◌, Some, subst, IfOk-weaker, text_in, NetworkRun, edited_state, RunsExtracted, State}
use Rattle.extract_commands.proofs.Common.{both_ok}
use Rattle.std.proofs.Common.{Ok, Err}
use Rattle.session_model.specs.declared.fetching.Fetched.{Fetched}
use Rattle.session_model.specs.Fetches.{FetchMeans}
use Rattle.extract_commands.proofs.CellRunLaws.{refuses_fetched, runs_fetched}
use Rattle.extract_commands.proofs.command_vectors.fetch_vectors.Goals as goal

pub returns-in-Text-clause-effect : goal.returns-in-Text-clause-effect
returns-in-Text-clause-effect g c files told =
    let there : text_in files c.args.file ≡ Ok c.in-Text.text.items =
    subst (λ (fetched : Fetched). FetchMeans files c.args.file fetched) c.in-Text.is (c.in_ok-text.ensures.effect files told) in
    let work = edited_state c.args.edited.now in
    let after : State = Some (edited_state c.run_extracted.new.edited) in
    IfOk-weaker c.run_extracted.result _ _
    (λ answer runs. (
      c.args.file ∷ [],
      runs_fetched c.args.question c.args.budget c.args.number c.args.name.now c.args.file c.in-Text.text.items (text_in files c.args.file) work c.args.cell.0
          after answer there
          (subst (λ (run : NetworkRun). RunsExtracted run c.args.budget c.args.number (c.args.file ∷ []) work c.args.cell.0
          (record { state = after; lines = answer.lines.items; stores = answer.stores.items; fetched = c.args.file ∷ [] }))
          c.in_ok-run-in-Text.ensures runs),
      c.fetch_text.ensures.asked,
    ))
    (c.run_extracted.ensures.effect (c.args.file ∷ []))

pub returns-clause-effect : goal.returns-clause-effect
returns-clause-effect g c files told =
    let there : text_in files c.args.file ≡ Err c.in-Refused.fault =
    subst (λ (fetched : Fetched). FetchMeans files c.args.file fetched) c.in-Refused.is (c.in_ok-text.ensures.effect files told) in
    both_ok c.refuse_file.result _ _ _
    (λ answer lines stores. (
      c.args.file ∷ [],
      refuses_fetched c.args.question c.args.budget c.args.number c.args.name.now c.args.file c.in-Refused.fault (text_in files c.args.file)
          (edited_state c.args.edited.now) c.args.cell.0 answer
          there lines stores,
      c.fetch_text.ensures.asked,
    ))
    c.refuse_file.ensures.lines c.refuse_file.ensures.stores
