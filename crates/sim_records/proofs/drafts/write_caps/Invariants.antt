use Rattle.sim_records.proofs.Common.{take, GoesOnBy, caps_text}
use Rattle.sim_records.proofs.drafts.write_caps.Given as goal

-- the text has gone on by the capacitances of the nodes passed
abbrev pub invariant-loop-node : goal.invariant-loop-node
invariant-loop-node l = GoesOnBy (caps_text (take l.node-index l.nodes)) l.initial.text.items l.text.items
