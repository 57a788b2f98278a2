use Rattle.tech_model.proofs.WholeLaws.{brushed_column-whole}
use Rattle.tech_model.proofs.laws.columns_stay_whole.Goals as goal

pub returns : goal.returns
returns c = λ raw well_formed brush layer column. brushed_column-whole raw brush layer column well_formed
