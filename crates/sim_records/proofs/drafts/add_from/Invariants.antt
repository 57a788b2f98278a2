use Rattle.sim_records.proofs.Common.{take, switches_from, AddsSwitches}
use Rattle.sim_records.proofs.drafts.add_from.Given as goal

-- the switches to the terminals passed have been added
abbrev pub invariant-loop-drain : goal.invariant-loop-drain
invariant-loop-drain l = AddsSwitches (switches_from l.fet l.source (take l.drain-index l.others)) l.initial.draft l.draft
