use Rattle.edit_script.proofs.Common.{◌<◌, length, subst, RawTech}
use Rattle.edit_script.proofs.CellLaws.{layer_there}
use Rattle.edit_script.proofs.lookups.layer_called.Goals as goal

pub returns-in-Some-clause-there : goal.returns-in-Some-clause-there
returns-in-Some-clause-there c =
    subst (λ (raw : RawTech). c.in-Some.layer.0 < length raw.layers) c.tech.ensures
    (layer_there c.tech.result.now c.bytes.result.now c.in-Some.layer c.in-Some.ensures)
