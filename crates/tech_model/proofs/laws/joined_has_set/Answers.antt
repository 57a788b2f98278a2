use Rattle.tech_model.proofs.JoinedLaws.{joined-found}
use Rattle.tech_model.proofs.laws.joined_has_set.Goals as goal

pub returns : goal.returns
returns c = joined-found
