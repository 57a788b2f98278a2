use Rattle.vector_files.proofs.Common.{take, IsIndexOf}
use Rattle.vector_files.proofs.nodes.each_name_once.Given as goal

-- the names so far
abbrev pub invariant-loop-name : goal.invariant-loop-name
invariant-loop-name l = IsIndexOf l.names l.nodes.items (take l.name-index l.named)
