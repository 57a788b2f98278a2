use Rattle.vector_runs.proofs.Common.{List, Bool, ap, get_or, sym, subst, network_of}
use Rattle.vector_runs.proofs.RestingRuns.{RestsBut, set_rests}
use Rattle.vector_runs.proofs.progress.Progress.set.Goals as goal

pub returns-clause-rested : goal.returns-clause-rested
returns-clause-rested c =
    let net = c.args.net.now in
    let states = c.args.self.now.states.items in
    set_rests net c.set_input.new.self states c.args.node c.args.level _ c.take.result c.with_touched.result c.requires.node
    (ap (λ (inputs : List Bool). get_or inputs c.args.node _) c.items.ensures)
    (subst (RestsBut (network_of net) states) (sym c.take.ensures.value) c.requires.rested) c.with_touched.ensures c.set_input.ensures
