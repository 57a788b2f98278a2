use Rattle.ext_cache.proofs.AgreementLaws.{kept_by_cell, kept_by_cells}
use Rattle.ext_cache.proofs.laws.new_cells_keep_agreement.Goals as goal

pub returns : goal.returns
returns c = record { one = kept_by_cell; all = kept_by_cells }
