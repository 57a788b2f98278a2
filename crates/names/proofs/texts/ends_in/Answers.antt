use Rattle.names.proofs.Common.{sym, ◌∙◌, ap}
use Rattle.ext_model.proofs.NameKinds.{is_byte, ends_in-last}
use Rattle.names.proofs.texts.ends_in.Goals as goal

pub returns-in-Some : goal.returns-in-Some
returns-in-Some c = ap (is_byte c.args.byte) c.in-Some.ensures.value ∙ sym (ends_in-last c.args.byte c.args.text.now)

pub returns-in-None : goal.returns-in-None
returns-in-None c = ap (is_byte c.args.byte) c.in-None.ensures.value ∙ sym (ends_in-last c.args.byte c.args.text.now)
