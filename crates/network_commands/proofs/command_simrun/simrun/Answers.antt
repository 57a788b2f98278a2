use Rattle.network_commands.proofs.Common.{◌≡◌, ◌∙◌, Ok, Err, subst, IfOk-weaker, Fetched, FetchMeans, text_in, both_ok}
use Rattle.network_commands.proofs.SimulationCommands.{simrun_means, source_refused, source_run}
use Rattle.network_commands.proofs.command_simrun.simrun.Goals as goal

pub returns-in-Text-clause-effect : goal.returns-in-Text-clause-effect
returns-in-Text-clause-effect g c files told =
    let source = c.in_ok-source.source in
    let file = c.in_ok-file.file in
    let there : text_in files source ≡ Ok c.in-Text.text.items =
    subst (λ (fetched : Fetched). FetchMeans files source fetched) c.in-Text.is (c.in_ok-text.ensures.effect files told) in
    IfOk-weaker c.run_text.result _ _
    (λ answer means. simrun_means c.args.budget c.args.number files c.args.name.now c.args.file.now source file answer (g.F.Shelf.fetch_plan c.args.shelf.now)
    (g.F.Shelf.fetch_plan c.run_text.new.shelf) c.in_ok-source.ensures.file c.in_ok-file.ensures.file
    (source_run c.args.budget c.args.number files source c.in-Text.text.items (text_in files source) file answer (g.F.Shelf.fetch_plan c.args.shelf.now)
    (g.F.Shelf.fetch_plan c.fetch_text.new.shelf) (g.F.Shelf.fetch_plan c.run_text.new.shelf) there c.fetch_text.ensures.asked means))
    (rw c.deref.ensures.value at c.run_text.ensures.effect files (c.in_ok-text.ensures.files ∙ told))

pub returns-in-Refused-clause-effect : goal.returns-in-Refused-clause-effect
returns-in-Refused-clause-effect g c files told =
    let source = c.in_ok-source.source in
    let file = c.in_ok-file.file in
    let there : text_in files source ≡ Err c.in-Refused.fault =
    subst (λ (fetched : Fetched). FetchMeans files source fetched) c.in-Refused.is (c.in_ok-text.ensures.effect files told) in
    both_ok c.refuse_file.result _ _ _
    (λ answer lines stores. simrun_means c.args.budget c.args.number files c.args.name.now c.args.file.now source file answer
    (g.F.Shelf.fetch_plan c.args.shelf.now) (g.F.Shelf.fetch_plan c.fetch_text.new.shelf) c.in_ok-source.ensures.file c.in_ok-file.ensures.file
    (source_refused c.args.budget c.args.number files source c.in-Refused.fault (text_in files source) file answer (g.F.Shelf.fetch_plan c.args.shelf.now)
    (g.F.Shelf.fetch_plan c.fetch_text.new.shelf) there c.fetch_text.ensures.asked lines stores))
    c.refuse_file.ensures.lines c.refuse_file.ensures.stores
