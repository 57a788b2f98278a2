use Rattle.std.specs.Prelude.{Contains}
use Rattle.replay_laws.proofs.TwoRuns.{far_step}
use Rattle.replay_laws.proofs.laws.replay_law.Goals as goal

pub returns : goal.returns
returns c = λ net other s t seeds v x sound sound' wired held storage outside next.
    far_step net other s t (Contains seeds) v x sound sound' wired held storage (λ m is i. outside (record { seed = m; is_seed = is; joined = i })) next
