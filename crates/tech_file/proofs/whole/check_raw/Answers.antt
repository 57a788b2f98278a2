-- Where no section is missing, there is a name.
use Rattle.tech_file.proofs.Common.{◌∙◌}
use Rattle.tech_file.proofs.WholeLaws.{none_is}
use Rattle.tech_file.proofs.whole.check_raw.Goals as goal

pub check-requires : goal.check-requires
check-requires c = c.requires (λ empty. c.missing.ensures.named (none_is c.missing.result c.in_default.is) (c.bytes.ensures ∙ empty))
