use Rattle.extract_commands.proofs.OneExtraction.{not_refused, same_extraction, same_refusal}
use Rattle.extract_commands.proofs.laws.extractions_are_unique.Goals as goal

pub returns : goal.returns
returns c = record {
  extractions = same_extraction c.unattached_texts_are_unique.ensures;
  refusals = same_refusal c.unclean_cells_are_unique.ensures.below;
  either = not_refused c.unclean_cells_are_unique.ensures.clean;
}
