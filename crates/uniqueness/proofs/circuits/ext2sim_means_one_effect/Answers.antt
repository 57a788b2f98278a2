use Rattle.uniqueness.proofs.Ext2simEffects.{same_effect}
use Rattle.uniqueness.proofs.circuits.ext2sim_means_one_effect.Goals as goal

pub returns : goal.returns
returns c = same_effect c.flat_circuits_are_unique.ensures.circuits c.reading_is_one.ensures
