use Rattle.fault_grade.proofs.Common.{◌≡◌, ◌≤◌, drop, true, watched, Watched, HasShown}
use Rattle.fault_replay.specs.Runs.{IsBeside, IsReady}
use Rattle.fault_grade.proofs.Comparisons.{AreCompared}
use Rattle.fault_grade.proofs.detecting.run_to_detection.Given as goal

abbrev pub invariant-loop-number : goal.invariant-loop-number
invariant-loop-number l = record {
  compared : (from : Watched) → HasShown l.budget l.fn.net.nodes from l.lines l.good.seen.items
      → AreCompared l.budget from (watched l.fn.net l.fn.run.run) l.fn.run.run.stuck l.lines l.number-index l.seen (watched l.net l.run.run) l.found;
  stuck : l.run.run.stuck ≡ l.fn.run.run.stuck;
  ready : IsReady l.budget l.net l.run;
  beside : l.run.on ≡ true → IsBeside l.budget l.net l.run (drop l.number-index l.lines);
  counted : (watched l.net l.run.run).at.phases ≤ l.number-index;
  nodes : l.net.nodes ≡ l.fn.net.nodes;
  switches : l.net.switches ≡ l.fn.net.switches;
}
