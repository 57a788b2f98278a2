use Rattle.cell_tree.proofs.Common.{◌≡◌, ◌++◌, All, states, IsLawfulCell, new_states, AreBehind}
use Rattle.cell_tree.proofs.additions.push_all.Given as goal

abbrev pub invariant-loop-cell : goal.invariant-loop-cell
invariant-loop-cell l = record {
  behind : AreBehind l.initial.cells.items l.cells.items;
  come : states l.cells.items ++ new_states l.cell-iterator.rest.items ≡ states l.initial.cells.items ++ new_states l.fn.new.items;
  ids : All IsLawfulCell (new_states l.cell-iterator.rest.items);
}
