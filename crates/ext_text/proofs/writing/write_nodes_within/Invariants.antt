use Rattle.ext_text.proofs.Common.{◌≡◌, ◌++◌, drop, nodes_text}
use Rattle.ext_text.proofs.writing.write_nodes_within.Given as goal

abbrev pub invariant-loop-node : goal.invariant-loop-node
invariant-loop-node l = l.out.items ++ nodes_text (drop l.node-index l.nodes) ≡ l.initial.out.items ++ nodes_text l.nodes
