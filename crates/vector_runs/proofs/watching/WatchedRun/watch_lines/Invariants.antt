use Rattle.vector_runs.proofs.Common.{◌≡◌, ◌≤◌, take, watched, LinesShow, counting}
use Rattle.vector_runs.specs.Running.{IsUnderWay}
use Rattle.vector_runs.proofs.watching.WatchedRun.watch_lines.Given as goal

abbrev pub invariant-loop-number : goal.invariant-loop-number
invariant-loop-number l = record {
  shown : LinesShow l.budget (watched l.fn.net l.fn.self) (counting l.fn.self.stuck (take l.number-index l.lines)) (watched l.net l.self) l.seen.items;
  stuck : l.self.stuck ≡ l.fn.self.stuck;
  under_way : IsUnderWay l.net l.self;
  counted : l.self.progress.phases ≤ l.number-index;
  nodes : l.net.nodes ≡ l.fn.net.nodes;
  switches : l.net.switches ≡ l.fn.net.switches;
}
