use Rattle.tech_model.proofs.LocalLaws.{brushed_column-local}
use Rattle.tech_model.proofs.laws.columns_are_local.Goals as goal

pub returns : goal.returns
returns c = λ raw well_formed brush layer plane a b. brushed_column-local raw brush layer plane a b well_formed
