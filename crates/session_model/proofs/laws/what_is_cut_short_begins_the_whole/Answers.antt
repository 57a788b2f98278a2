use Rattle.session_model.proofs.Common.{◌≡◌, true}
use Rattle.session_model.proofs.SessionLaws.{files_after_some, report_is_prefix}
use Rattle.session_model.proofs.laws.what_is_cut_short_begins_the_whole.Goals as goal

pub returns : goal.returns
returns c = λ quiet failed files acts reported after cut.
    (report_is_prefix quiet (failed ≡ true) files acts reported after cut, files_after_some quiet (failed ≡ true) files acts reported after cut)
