use Rattle.sim_text.proofs.Common.{◌≡◌, ◌++◌, drop, lines_saying}
use Rattle.sim_text.proofs.writing.write_lines.Given as goal

abbrev pub invariant-loop-item : goal.invariant-loop-item
invariant-loop-item g l =
    let said = g.R.LineRecord.said in
    l.out.items ++ lines_saying said (drop l.item-index l.items) ≡ l.initial.out.items ++ lines_saying said l.items
