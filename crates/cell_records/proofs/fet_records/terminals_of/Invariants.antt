use Rattle.cell_records.proofs.Common.{◌≡◌, map, take, term_of}
use Rattle.cell_records.proofs.fet_records.terminals_of.Given as goal

abbrev pub invariant-loop-terminal : goal.invariant-loop-terminal
invariant-loop-terminal l = l.terminals.items ≡ map (term_of l.nodes) (take l.terminal-index l.joined)
