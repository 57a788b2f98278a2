use Rattle.network_commands.proofs.Common.{◌≡◌, Ok, Err, subst, Fetched, FetchMeans, text_in, network_of, both_ok}
use Rattle.network_commands.proofs.SimulationCommands.{vectors_refused, vectors_run}
use Rattle.network_commands.proofs.command_simrun.run_network.Goals as goal

pub returns-in-Text-clause-effect : goal.returns-in-Text-clause-effect
returns-in-Text-clause-effect g c files fetched told =
    let there : text_in files c.args.file ≡ Ok c.in-Text.text.items =
    subst (λ (fetched : Fetched). FetchMeans files c.args.file fetched) c.in-Text.is (c.in_ok-text.ensures.effect files told) in
    both_ok c.run_fetched.result _ _ _
    (λ answer tells stores. vectors_run c.args.budget c.args.number c.args.file c.in-Text.text.items (text_in files c.args.file) (network_of c.args.named.net)
    c.args.named.names fetched answer (g.F.Shelf.fetch_plan c.args.shelf.now) (g.F.Shelf.fetch_plan c.fetch_text.new.shelf) there c.fetch_text.ensures.asked
    tells stores)
    (rw c.deref.ensures.value at c.run_fetched.ensures.tells) c.run_fetched.ensures.stores

pub returns-in-Refused-clause-effect : goal.returns-in-Refused-clause-effect
returns-in-Refused-clause-effect g c files fetched told =
    let there : text_in files c.args.file ≡ Err c.in-Refused.fault =
    subst (λ (fetched : Fetched). FetchMeans files c.args.file fetched) c.in-Refused.is (c.in_ok-text.ensures.effect files told) in
    both_ok c.refuse_file.result _ _ _
    (λ answer lines stores. vectors_refused c.args.budget c.args.number c.args.file c.in-Refused.fault (text_in files c.args.file) (network_of c.args.named.net)
    c.args.named.names fetched answer (g.F.Shelf.fetch_plan c.args.shelf.now) (g.F.Shelf.fetch_plan c.fetch_text.new.shelf) there c.fetch_text.ensures.asked
    lines stores)
    c.refuse_file.ensures.lines c.refuse_file.ensures.stores
