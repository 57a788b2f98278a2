use Rattle.cell_loading.proofs.Common.{subst, RawTech, seen}
use Rattle.mag_text.specs.MagTexts.{IsRead}
use Rattle.cell_loading.proofs.ReadingLaws.{body_given, body_refused, count_same, first_scale_same}
use Rattle.cell_loading.proofs.cell_files.read_body.Goals as goal

pub returns-in-Ok-clause-read : goal.returns-in-Ok-clause-read
returns-in-Ok-clause-read c read are =
    let said = subst (λ (raw : RawTech). IsRead raw c.args.text.now c.in-Ok.body) c.tech.ensures c.in-Ok.ensures.read in
    let raw = c.args.library.now.tech in
    body_given (seen c.args.library.now) read c.args.file c.args.text.now said.draft c.in-Ok.body c.check_body.result said.reads said.body_is
    c.check_body.ensures.same
    (c.check_body.ensures.read read said.draft (first_scale_same raw read c.args.cells.now are) (count_same raw read c.args.cells.now are)
    said.body_is.uses_are said.body_is.scale_is)

pub returns-in-Ok-clause-refused : goal.returns-in-Ok-clause-refused
returns-in-Ok-clause-refused c read are =
    let said = subst (λ (raw : RawTech). IsRead raw c.args.text.now c.in-Ok.body) c.tech.ensures c.in-Ok.ensures.read in
    let raw = c.args.library.now.tech in
    body_refused (seen c.args.library.now) read c.args.file c.args.text.now said.draft c.check_body.result said.reads
    (c.check_body.ensures.refused read said.draft (first_scale_same raw read c.args.cells.now are) (count_same raw read c.args.cells.now are)
    said.body_is.uses_are said.body_is.scale_is)
