-- The law of lists of strips, at the set.
use Rattle.geo_strips.proofs.StripListLaws.{one_list}
use Rattle.geo_strips.proofs.strip_lists.strips_are_unique.Goals as goal

pub returns : goal.returns
returns g c = one_list g.S.SquareSet.set
