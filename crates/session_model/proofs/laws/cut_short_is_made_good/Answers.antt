use Rattle.session_model.proofs.Common.{◌≡◌, true, stores_in}
use Rattle.session_model.proofs.RerunLaws.{made_good}
use Rattle.session_model.proofs.SessionLaws.{files_after_some}
use Rattle.session_model.proofs.StoreLaws.{StoresSome-weaker}
use Rattle.session_model.proofs.laws.cut_short_is_made_good.Goals as goal

pub returns : goal.returns
returns g c = λ first files after lines acts quiet failed reported means none cut.
    made_good g.S.Session.means c.requires first files after lines acts means none
    (StoresSome-weaker (failed ≡ true) (Unit {0}) (λ is. tt) files (stores_in acts) after
    (files_after_some quiet (failed ≡ true) files acts reported after cut))
