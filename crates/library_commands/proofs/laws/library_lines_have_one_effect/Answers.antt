use Rattle.library_commands.proofs.OneChecks.{checks_do_one_thing}
use Rattle.library_commands.proofs.OneCif.{writings_do_one_thing}
use Rattle.library_commands.proofs.OneEffects.{edits_do_one_thing, load_does_one_thing, looks_do_one_thing, returns_do_one_thing, tech_does_one_thing}
use Rattle.library_commands.proofs.laws.library_lines_have_one_effect.Goals as goal

pub returns : goal.returns
returns c = record {
  tech = tech_does_one_thing;
  load = load_does_one_thing;
  edits = edits_do_one_thing;
  returns = returns_do_one_thing;
  looks = looks_do_one_thing c.unclean_cells_are_unique.ensures.below;
  checks = checks_do_one_thing c.drc_means_one_effect.ensures;
  writes = writings_do_one_thing c.cif_commands_mean_one_effect.ensures.cif;
}
