use Rattle.sim_records.proofs.Common.{take, lines_saying, saying_alias, GoesOnBy}
use Rattle.sim_records.proofs.drafts.write_node_aliases.Given as goal

-- the text has gone on by the names passed
abbrev pub invariant-loop-alias : goal.invariant-loop-alias
invariant-loop-alias l =
    GoesOnBy (lines_saying (λ alias. saying_alias (l.node.name, alias)) (take l.alias-index l.node.aliases)) l.initial.text.items l.text.items
