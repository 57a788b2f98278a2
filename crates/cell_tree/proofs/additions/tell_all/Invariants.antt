use Rattle.cell_tree.proofs.Common.{◌≡◌, states, KnowUsersTo}
use Rattle.cell_tree.proofs.additions.tell_all.Given as goal

abbrev pub invariant-loop-cell : goal.invariant-loop-cell
invariant-loop-cell l = record {
  same : states l.cells ≡ states l.initial.cells;
  users : KnowUsersTo l.cells l.cell;
}
