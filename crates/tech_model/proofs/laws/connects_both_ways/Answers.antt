use Rattle.tech_model.proofs.TypeLaws.{connects_back}
use Rattle.tech_model.proofs.laws.connects_both_ways.Goals as goal

pub returns : goal.returns
returns c = connects_back
