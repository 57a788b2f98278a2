use Rattle.workspace.proofs.Common.{◌≡◌, ◌++◌, drop, flat_map, seen, told_lines}
use Rattle.workspace.proofs.extractions.lines_told.Given as goal

-- the lines so far and those of the cells that are left are the lines of all
abbrev pub invariant-loop-extracted : goal.invariant-loop-extracted
invariant-loop-extracted l =
    l.lines.items ++ flat_map (told_lines (seen l.library)) (drop l.extracted-index l.made) ≡ flat_map (told_lines (seen l.library)) l.made
