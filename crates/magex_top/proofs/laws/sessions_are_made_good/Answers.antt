use Rattle.magex_top.proofs.RestLaws.{made_good_again}
use Rattle.magex_top.proofs.laws.sessions_are_made_good.Goals as goal

pub returns : goal.returns
returns c = made_good_again
