use Rattle.ext_cache.proofs.AgreementLaws.{kept_by_edit}
use Rattle.ext_cache.proofs.laws.edits_keep_agreement.Goals as goal

pub returns : goal.returns
returns c = kept_by_edit
