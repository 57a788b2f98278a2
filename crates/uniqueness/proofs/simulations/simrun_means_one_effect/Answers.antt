use Rattle.uniqueness.proofs.SimrunEffects.{same_simrun}
use Rattle.uniqueness.proofs.simulations.simrun_means_one_effect.Goals as goal

pub returns : goal.returns
returns c = same_simrun c.vector_answers_are_unique.ensures
