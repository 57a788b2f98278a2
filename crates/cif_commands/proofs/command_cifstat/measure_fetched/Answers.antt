use Rattle.cif_commands.proofs.Common.{◌≡◌, [], ◌∷◌, subst, IfOk-weaker, text_in, both_ok}
use Rattle.std.proofs.Common.{Ok, Err}
use Rattle.session_model.specs.declared.fetching.Fetched.{Fetched}
use Rattle.session_model.specs.Fetches.{FetchMeans}
use Rattle.cif_commands.proofs.CifstatLaws.{file_measured, file_refused}
use Rattle.cif_commands.proofs.command_cifstat.measure_fetched.Goals as goal

pub returns-in-Text-clause-effect : goal.returns-in-Text-clause-effect
returns-in-Text-clause-effect g c files told =
    let there : text_in files c.args.file ≡ Ok c.in-Text.text.items =
    subst (λ (fetched : Fetched). FetchMeans files c.args.file fetched) c.in-Text.is (c.in_ok-text.ensures.effect files told) in
    IfOk-weaker c.measure_text.result _ _
    (λ answer means. (
      c.args.file ∷ [],
      file_measured c.args.number c.args.name.now c.args.file answer (text_in files c.args.file) c.in-Text.text.items there means,
      c.fetch_text.ensures.asked,
    ))
    (rw c.deref.ensures.value at c.measure_text.ensures.effect)

pub returns-clause-effect : goal.returns-clause-effect
returns-clause-effect g c files told =
    let there : text_in files c.args.file ≡ Err c.in-Refused.fault =
    subst (λ (fetched : Fetched). FetchMeans files c.args.file fetched) c.in-Refused.is (c.in_ok-text.ensures.effect files told) in
    both_ok c.refuse_file.result _ _ _
    (λ answer lines stores. (
      c.args.file ∷ [],
      file_refused c.args.number c.args.name.now c.args.file answer (text_in files c.args.file) c.in-Refused.fault there lines stores,
      c.fetch_text.ensures.asked,
    ))
    c.refuse_file.ensures.lines c.refuse_file.ensures.stores
