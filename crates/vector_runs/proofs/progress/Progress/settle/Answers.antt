use Rattle.vector_runs.proofs.Common.{subst, network_of}
use Rattle.vector_runs.proofs.RestingRuns.{RestsBut}
use Rattle.vector_runs.proofs.progress.Progress.settle.Goals as goal

pub settle_from-requires-clause-rested : goal.settle_from-requires-clause-rested
settle_from-requires-clause-rested c =
    let net = network_of c.args.net.now in
    let states = c.args.self.now.states.items in
    let rests = subst (RestsBut net states) c.in-Some.is c.requires.rested in
    rw (c.as_slice.ensures.value, c.deref_mut.ensures.value) rests.1
