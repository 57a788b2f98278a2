use Rattle.sim_records.proofs.Common.{◌≡◌, ◌++◌, map, take}
use Rattle.sim_records.proofs.caps.add_aliases.Given as goal

-- the aliases passed have been added
abbrev pub invariant-loop-alias : goal.invariant-loop-alias
invariant-loop-alias l = l.aliases.items ≡ l.initial.aliases.items ++ map (λ alias. (l.node.name, alias)) (take l.alias-index l.node.aliases)
