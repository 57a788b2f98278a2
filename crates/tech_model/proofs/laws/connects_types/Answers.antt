use Rattle.tech_model.proofs.TypeLaws.{connects_types, connects_self}
use Rattle.tech_model.proofs.laws.connects_types.Goals as goal

pub returns : goal.returns
returns c = λ raw. (connects_types raw, connects_self raw)
