use Rattle.cif_commands.proofs.OneCif.{cif_does_one_thing}
use Rattle.cif_commands.proofs.OneCifstat.{cifstat_does_one_thing}
use Rattle.cif_commands.proofs.laws.cif_commands_mean_one_effect.Goals as goal

pub returns : goal.returns
returns c = record { cif = cif_does_one_thing c.library_order_law.ensures.lists c.library_order_law.ensures.unique; cifstat = cifstat_does_one_thing }
