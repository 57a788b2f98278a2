use Rattle.magex_top.proofs.OneLine.{one_line}
use Rattle.magex_top.proofs.laws.lines_have_one_effect.Goals as goal

pub returns : goal.returns
returns c = one_line (record {
  tech = c.library_lines_have_one_effect.ensures.tech;
  load = c.library_lines_have_one_effect.ensures.load;
  edits = c.library_lines_have_one_effect.ensures.edits;
  returns = c.library_lines_have_one_effect.ensures.returns;
  looks = c.library_lines_have_one_effect.ensures.looks;
  checks = c.library_lines_have_one_effect.ensures.checks;
  writes = c.library_lines_have_one_effect.ensures.writes;
  cifstat = c.cif_commands_mean_one_effect.ensures.cifstat;
  extract = c.extracting_lines_have_one_effect.ensures.extract;
  circuit = c.extracting_lines_have_one_effect.ensures.circuit;
  vectors = c.extracting_lines_have_one_effect.ensures.vectors;
  generate = c.extracting_lines_have_one_effect.ensures.generate;
  ext2sim = c.ext2sim_means_one_effect.ensures;
  simrun = c.simrun_means_one_effect.ensures;
})
