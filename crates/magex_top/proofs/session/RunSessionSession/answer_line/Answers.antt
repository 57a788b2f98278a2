use Rattle.magex_top.proofs.Common.{refl, IfOk-weaker}
use Rattle.magex_top.proofs.session.RunSessionSession.answer_line.Goals as goal

pub returns-clause-effect : goal.returns-clause-effect
returns-clause-effect g c files told =
    IfOk-weaker c.answer_line-answered.result _ _ (λ answer means. (means.0, (refl, means.1), means.2)) (c.answer_line-answered.ensures.effect files told)
