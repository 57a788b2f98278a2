-- What a sound draft is finished to fits together.
use Rattle.tech_draft.proofs.Common.{subst, sym, IsWellFormed}
use Rattle.std.proofs.lemmas.Result.{IfOk-weaker}
use Rattle.tech_draft.proofs.FinishedDrafts.{finished-well_formed}
use Rattle.tech_draft.proofs.draft.Draft.into_raw.Goals as goal

pub returns-clause-well_formed : goal.returns-clause-well_formed
returns-clause-well_formed c =
    λ sound plain. IfOk-weaker c.finish.result _ _
    (λ raw is. subst IsWellFormed (sym is) (finished-well_formed c.args.self sound plain)) c.finish.ensures.value
