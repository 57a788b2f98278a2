use Rattle.library_commands.proofs.Common.{[], ◌∷◌, ◌≡◌, Ok, Err, None, subst, rules, IfOk-weaker, text_in, tech_file, both_ok}
use Rattle.session_model.specs.declared.fetching.Fetched.{Fetched}
use Rattle.session_model.specs.Fetches.{FetchMeans}
use Rattle.library_commands.proofs.TechLaws.{tech_read, tech_file_refused}
use Rattle.library_commands.proofs.command_tech.tech.Goals as goal

pub returns-in-Text-clause-effect : goal.returns-in-Text-clause-effect
returns-in-Text-clause-effect g c files told =
    let there : text_in files c.in_ok-file.file ≡ Ok c.in-Text.text.items =
    subst (λ (fetched : Fetched). FetchMeans files c.in_ok-file.file fetched) c.in-Text.is (c.in_ok-text.ensures.effect files told) in
    let none : c.args.session.now.edited ≡ None = search rules in
    let file : c.in_ok-file.file ≡ tech_file c.args.name.now = search rules in
    IfOk-weaker c.accept_tech.result _ _
    (λ answer is. (
      c.in_ok-file.file ∷ [],
      tech_read c.args.number c.args.session.now c.accept_tech.new.session files c.args.name.now c.in_ok-file.file c.in-Text.text.items answer none file there
          is,
      c.fetch_text.ensures.asked,
    ))
    (rw c.deref.ensures.value at c.accept_tech.ensures.effect)

pub returns-in-Refused-clause-effect : goal.returns-in-Refused-clause-effect
returns-in-Refused-clause-effect g c files told =
    let there : text_in files c.in_ok-file.file ≡ Err c.in-Refused.fault =
    subst (λ (fetched : Fetched). FetchMeans files c.in_ok-file.file fetched) c.in-Refused.is (c.in_ok-text.ensures.effect files told) in
    let none : c.args.session.now.edited ≡ None = search rules in
    let file : c.in_ok-file.file ≡ tech_file c.args.name.now = search rules in
    both_ok c.refuse_file.result _ _ _
    (λ answer lines stores. (
      tech_file c.args.name.now ∷ [],
      tech_file_refused c.args.number c.args.session.now files c.args.name.now c.in_ok-file.file c.in-Refused.fault answer none file there lines stores,
      c.fetch_text.ensures.asked,
    ))
    c.refuse_file.ensures.lines c.refuse_file.ensures.stores
