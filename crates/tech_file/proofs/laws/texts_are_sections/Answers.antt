use Rattle.tech_file.proofs.WholeTexts.{technology-form}
use Rattle.tech_file.proofs.laws.texts_are_sections.Goals as goal

pub returns : goal.returns
returns c = technology-form
