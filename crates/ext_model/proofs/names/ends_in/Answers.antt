use Rattle.ext_model.proofs.Common.{sym, ◌∙◌, ap}
use Rattle.ext_model.proofs.NameKinds.{is_byte, ends_in-last}
use Rattle.ext_model.proofs.names.ends_in.Goals as goal

pub returns-in-Some : goal.returns-in-Some
returns-in-Some c = ap (is_byte c.args.byte) c.in-Some.ensures.value ∙ sym (ends_in-last c.args.byte c.args.name.now)

pub returns-in-None : goal.returns-in-None
returns-in-None c = ap (is_byte c.args.byte) c.in-None.ensures.value ∙ sym (ends_in-last c.args.byte c.args.name.now)
