use Rattle.network_commands.proofs.Common.{◌≡◌, ◌∷◌, [], Ok, Err, refl, rules, arith, IfOk-weaker, sim_in, both_ok}
use Rattle.line_answers.proofs.CauseLaws.{causes_of_inside}
use Rattle.network_commands.proofs.SimulationCommands.{read_refused, read_run, sim_inside}
use Rattle.network_commands.proofs.command_simrun.run_text.Goals as goal

pub returns-in-Ok-clause-effect : goal.returns-in-Ok-clause-effect
returns-in-Ok-clause-effect g c files told =
    let is : sim_in c.args.text.now ≡ Ok c.in-Ok.sim = search rules in
    IfOk-weaker c.run_records.result _ _
    (λ answer means. read_run c.args.budget c.args.number files c.args.source (sim_in c.args.text.now) c.in-Ok.sim c.args.file answer
    (g.F.Shelf.fetch_plan c.args.shelf.now) (g.F.Shelf.fetch_plan c.run_records.new.shelf) is means)
    (c.run_records.ensures.effect files (c.args.source ∷ []) told)

pub returns : goal.returns
returns g c =
    let is : sim_in c.args.text.now ≡ Err c.in-Err.at = search rules in
    let inside = IfOk-weaker c.refuse_sim.result _ _
    (λ answer lines. sim_inside c.args.number c.args.source c.in-Err.at answer.lines.items lines) c.refuse_sim.ensures.lines in
    record {
      effect = λ files told.
          both_ok c.refuse_sim.result _ _ _
          (λ answer lines stores. read_refused c.args.budget c.args.number files c.args.source (sim_in c.args.text.now) c.in-Err.at c.args.file answer
          (g.F.Shelf.fetch_plan c.args.shelf.now) is lines stores)
          c.refuse_sim.ensures.lines c.refuse_sim.ensures.stores;
      files = refl;
      causes = causes_of_inside g.F.Shelf c.args.shelf.now c.args.shelf.now c.refuse_sim.result c.refuse_sim.ensures.memory inside refl refl (omega arith)
          (omega arith);
    }
