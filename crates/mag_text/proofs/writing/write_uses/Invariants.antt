use Rattle.mag_text.proofs.Common.{◌≡◌, ◌++◌, drop, use_lines, text_of_each}
use Rattle.mag_text.proofs.writing.write_uses.Given as goal

abbrev pub invariant-loop-placed : goal.invariant-loop-placed
invariant-loop-placed l =
    l.out.items ++ text_of_each use_lines (drop l.placed-index l.uses) ≡ l.initial.out.items ++ text_of_each use_lines l.uses
