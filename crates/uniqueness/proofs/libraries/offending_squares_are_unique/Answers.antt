use Rattle.uniqueness.proofs.OneUncleanCell.{one_list_by_plane}
use Rattle.uniqueness.proofs.libraries.offending_squares_are_unique.Goals as goal

pub returns : goal.returns
returns c = λ library cell squares others p q. one_list_by_plane _ 0 _ squares others p q
