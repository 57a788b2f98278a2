use Rattle.network_runs.proofs.Common.{◌≡◌, ◌++◌, drop, map, grade_line, preferred_names}
use Rattle.network_runs.proofs.grading.grade_lines.Given as goal

-- the lines so far and those of the grades that are left are the lines of all
abbrev pub invariant-loop-graded : goal.invariant-loop-graded
invariant-loop-graded l =
    l.lines.items ++ map (grade_line (preferred_names l.circuit)) (drop l.graded-index l.grades) ≡ map (grade_line (preferred_names l.circuit)) l.grades
