use Rattle.std.proofs.Common.{◌≡◌, ◌++◌, drop}
use Rattle.look_commands.specs.CommandNodes.{node_lines}
use Rattle.look_commands.proofs.command_nodes.lines_of.Given as goal

-- the lines so far and those of the nodes that are left are the lines of all
abbrev pub invariant-loop-node : goal.invariant-loop-node
invariant-loop-node l = l.lines.items ++ node_lines (drop l.node-index l.nodes) ≡ node_lines l.nodes
