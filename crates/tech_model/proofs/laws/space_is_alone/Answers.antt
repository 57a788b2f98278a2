use Rattle.tech_model.proofs.WithinLaws.{space_within, within_space}
use Rattle.tech_model.proofs.laws.space_is_alone.Goals as goal

pub returns : goal.returns
returns c = λ raw t. (space_within raw t, within_space raw t)
