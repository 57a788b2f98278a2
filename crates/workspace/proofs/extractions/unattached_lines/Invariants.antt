use Rattle.workspace.proofs.Common.{◌≡◌, ◌++◌, drop, map}
use Rattle.workspace.specs.Extractions.{unattached_line}
use Rattle.workspace.proofs.extractions.unattached_lines.Given as goal

-- the lines so far and those of the texts that are left are the lines of all
abbrev pub invariant-loop-text : goal.invariant-loop-text
invariant-loop-text l = l.lines.items ++ map (unattached_line l.cell) (drop l.text-index l.texts) ≡ map (unattached_line l.cell) l.texts
