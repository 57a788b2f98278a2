use Rattle.vector_runs.proofs.Common.{◌≡◌, ◌≤◌, length, map, take, standing}
use Rattle.vector_runs.specs.Running.{IsRested, RanLines}
use Rattle.vector_runs.proofs.progress.Progress.run_lines.Given as goal

abbrev pub invariant-loop-line : goal.invariant-loop-line
invariant-loop-line l = record {
  ran : RanLines l.budget (standing l.fn.net l.fn.self) (map (λ line. line.1) (take l.line-index l.lines)) (standing l.net l.self)
      l.fn.replies.items l.replies.items;
  states : length l.self.states.items ≡ l.net.nodes;
  rested : IsRested l.net l.self;
  counted : l.self.phases ≤ l.line-index;
  nodes : l.net.nodes ≡ l.fn.net.nodes;
  switches : l.net.switches ≡ l.fn.net.switches;
}
