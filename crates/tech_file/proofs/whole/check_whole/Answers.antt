-- The lists of a sound draft with a name fit together.
use Rattle.tech_file.proofs.Common.{◌∙◌, ap}
use Rattle.tech_file.proofs.WholeLaws.{finished_name, plain_if_some}
use Rattle.tech_file.proofs.whole.check_whole.Goals as goal

pub check_raw-requires : goal.check_raw-requires
check_raw-requires c = λ some.
    c.in-Ok.ensures.well_formed c.requires
    (plain_if_some c.args.draft.raw.name c.requires.names.plain
    (λ empty. some (ap (λ raw. raw.name) c.in-Ok.ensures.value ∙ finished_name c.args.draft ∙ empty)))
