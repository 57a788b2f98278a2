use Rattle.vector_runs.proofs.Common.{◌∙◌}
use Rattle.vector_runs.proofs.RailStates.{put_back}
use Rattle.vector_runs.proofs.runs.run_to_end.Goals as goal

pub returns-then-is_err-clause-network : goal.returns-then-is_err-clause-network
returns-then-is_err-clause-network c =
    let ran = c.run_from_start-ran.ensures in
    let fresh = c.make_fresh.ensures in
    put_back c.args.named.now.net c.make_fresh.new.named.net c.args.named.now.names _ ran.names (fresh.nodes ∙ ran.nodes)
    (fresh.switches ∙ ran.switches) c.requires.fresh fresh.fresh

pub returns-else-is_err-clause-network : goal.returns-else-is_err-clause-network
returns-else-is_err-clause-network c =
    let ran = c.run_from_start-ran.ensures in
    let fresh = c.make_fresh.ensures in
    put_back c.args.named.now.net c.make_fresh.new.named.net c.args.named.now.names _ ran.names (fresh.nodes ∙ ran.nodes)
    (fresh.switches ∙ ran.switches) c.requires.fresh fresh.fresh
