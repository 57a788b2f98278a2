use Rattle.magex_top.proofs.Common.{text_of, usage_text, reply, [], ◌∷◌}
use Rattle.session_model.proofs.ProgressLaws.{begun_by_prefix}
use Rattle.magex_top.proofs.top_call.write_usage.Goals as goal

pub returns-in-Err-clause-beginning : goal.returns-in-Err-clause-beginning
returns-in-Err-clause-beginning g c before told = begun_by_prefix _ _ before (text_of (reply usage_text ∷ [])) told c.in-Err.ensures.some
