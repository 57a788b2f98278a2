use Rattle.sim_records.proofs.Common.{take, GoesOnBy, aliases_text}
use Rattle.sim_records.proofs.drafts.write_aliases.Given as goal

-- the text has gone on by the other names of the nodes passed
abbrev pub invariant-loop-node : goal.invariant-loop-node
invariant-loop-node l = GoesOnBy (aliases_text (take l.node-index l.nodes)) l.initial.text.items l.text.items
