use Rattle.cif_commands.proofs.Common.{◌≡◌, map, layer_line, layer_area}
use Rattle.std.proofs.Common.{◌++◌, drop}
use Rattle.cif_commands.proofs.layer_lines.layer_lines.Given as goal

-- the lines so far and those of the layers that are left are the lines of all
abbrev pub invariant-loop-layer : goal.invariant-loop-layer
invariant-loop-layer l =
    l.lines.items ++ map layer_line (map layer_area (drop l.layer-index l.layers)) ≡ map layer_line (map layer_area l.layers)
