use Rattle.library_trees.proofs.AgreeingViews.{agreeing_views}
use Rattle.library_trees.proofs.named_trees_are_of_the_cells_below.Goals as goal

pub returns : goal.returns
returns c = agreeing_views
