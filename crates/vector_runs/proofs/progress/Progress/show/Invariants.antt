use Rattle.vector_runs.proofs.Common.{◌≡◌, ◌++◌, take, shown_in}
use Rattle.vector_runs.proofs.progress.Progress.show.Given as goal

abbrev pub invariant-loop-name : goal.invariant-loop-name
invariant-loop-name l = l.replies.items ≡ l.initial.replies.items ++ shown_in l.self.states.items (take l.name-index l.asked)
