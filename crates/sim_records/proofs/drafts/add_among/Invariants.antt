use Rattle.sim_records.proofs.Common.{drop, SimDraft, switches_among, AddsSwitches}
use Rattle.sim_records.proofs.drafts.add_among.Given as goal

-- with the switches among the terminals left all have been added
abbrev pub invariant-loop-at : goal.invariant-loop-at
invariant-loop-at l =
    (last : SimDraft) → AddsSwitches (switches_among l.fet (drop l.at l.terminals)) l.draft last
    → AddsSwitches (switches_among l.fet l.terminals) l.initial.draft last
