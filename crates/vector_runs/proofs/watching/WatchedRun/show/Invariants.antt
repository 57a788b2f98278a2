use Rattle.vector_runs.proofs.Common.{◌≡◌, ◌++◌, map, take, state_of}
use Rattle.vector_runs.proofs.watching.WatchedRun.show.Given as goal

abbrev pub invariant-loop-name : goal.invariant-loop-name
invariant-loop-name l = l.seen.items ≡ l.initial.seen.items
    ++ map (λ named. record { line = l.number; name = named.0; value = state_of l.self.progress.states.items named.1; settled = l.self.settled })
    (take l.name-index l.name-items)
