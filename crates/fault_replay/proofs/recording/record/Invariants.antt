use Rattle.fault_replay.proofs.Common.{◌≡◌, ◌++◌, List, length, drop, All, network_of, PhaseRecord, FitsRecord, Records}
use Rattle.fault_replay.proofs.recording.record.Given as goal

abbrev pub invariant-loop-line : goal.invariant-loop-line
invariant-loop-line l = record {
  nodes : l.net.nodes ≡ l.fn.net.nodes;
  switches : l.net.switches ≡ l.fn.net.switches;
  states : length l.states ≡ l.net.nodes;
  fits : All (FitsRecord l.fn.net.nodes l.budget) l.phases.items;
  records : (later : List PhaseRecord) → Records l.budget (network_of l.net) l.states (drop l.line-index l.lines) later
      → Records l.budget (network_of l.fn.net) l.fn.states l.lines (l.phases.items ++ later);
}
