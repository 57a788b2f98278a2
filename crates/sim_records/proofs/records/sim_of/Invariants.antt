use Rattle.sim_records.proofs.Common.{◌≡◌, ◌≤◌, length, take, flat_map, MOST_SWITCHES, switches_of}
use Rattle.sim_records.proofs.records.sim_of.Given as goal

-- the switches of the transistors passed have been added
abbrev pub invariant-loop-fet : goal.invariant-loop-fet
invariant-loop-fet l = record {
  items : l.switches.items ≡ flat_map switches_of (take l.fet-index l.circuit.fets);
  few : length l.switches.items ≤ MOST_SWITCHES;
}
