use Rattle.sim_records.proofs.Common.{◌≡◌, ◌≤◌, ◌++◌, drop, length, MOST_SWITCHES, switches_among}
use Rattle.sim_records.proofs.switches.add_among.Given as goal

-- what stands and the switches among the terminals left are all
abbrev pub invariant-loop-at : goal.invariant-loop-at
invariant-loop-at l = record {
  items : l.switches.items ++ switches_among l.fet (drop l.at l.terminals) ≡ l.initial.switches.items ++ switches_among l.fet l.terminals;
  few : length l.switches.items ≤ MOST_SWITCHES;
}
