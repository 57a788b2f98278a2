use Rattle.drc_commands.proofs.OneDrc.{drc_does_one_thing}
use Rattle.drc_commands.proofs.laws.drc_means_one_effect.Goals as goal

pub returns : goal.returns
returns c = drc_does_one_thing c.violations_are_unique.ensures
