use Rattle.network_runs.proofs.Common.{◌≡◌, ◌++◌, drop, map, vector_line}
use Rattle.network_runs.proofs.simulations.lines_told.Given as goal

-- the lines so far and those of the replies that are left are the lines of all
abbrev pub invariant-loop-reply : goal.invariant-loop-reply
invariant-loop-reply l = l.lines.items ++ map vector_line (drop l.reply-index l.replies) ≡ map vector_line l.replies
