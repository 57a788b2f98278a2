use Rattle.uniqueness.proofs.CleanBelow.{none_unclean}
use Rattle.uniqueness.proofs.OneUncleanCell.{one_unclean, one_unclean_below}
use Rattle.uniqueness.proofs.libraries.unclean_cells_are_unique.Goals as goal

pub returns : goal.returns
returns c = record {
  first = one_unclean;
  below = one_unclean_below c.offending_squares_are_unique.ensures;
  clean = λ library root cell squares lawful. none_unclean library lawful root cell squares;
}
