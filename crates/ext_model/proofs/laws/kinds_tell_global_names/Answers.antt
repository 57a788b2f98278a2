use Rattle.ext_model.proofs.NameKinds.{kinds_tell_global_names}
use Rattle.ext_model.proofs.laws.kinds_tell_global_names.Goals as goal

pub returns : goal.returns
returns c = kinds_tell_global_names
