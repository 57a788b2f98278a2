use Rattle.sim_records.proofs.Common.{◌≡◌, ◌≤◌, ◌++◌, length, take, MOST_SWITCHES, switches_from}
use Rattle.sim_records.proofs.switches.add_from.Given as goal

-- the switches to the terminals passed have been added
abbrev pub invariant-loop-drain : goal.invariant-loop-drain
invariant-loop-drain l = record {
  items : l.switches.items ≡ l.initial.switches.items ++ switches_from l.fet l.source (take l.drain-index l.others);
  few : length l.switches.items ≤ MOST_SWITCHES;
}
