use Rattle.vector_runs.proofs.Common.{◌∙◌}
use Rattle.vector_runs.proofs.RailStates.{put_back}
use Rattle.vector_runs.proofs.watching.watch.Goals as goal

pub returns-clause-network : goal.returns-clause-network
returns-clause-network c =
    let ran = c.watch_from_start-seen.ensures in
    let fresh = c.make_fresh.ensures in
    put_back c.args.named.now.net c.make_fresh.new.named.net c.args.named.now.names _ ran.names (fresh.nodes ∙ ran.nodes)
    (fresh.switches ∙ ran.switches) c.requires.fresh fresh.fresh
