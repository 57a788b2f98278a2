use Rattle.tech_file.proofs.WholeTexts.{technology-refused}
use Rattle.tech_file.proofs.laws.texts_are_refused_for_their_first_fault.Goals as goal

pub returns : goal.returns
returns c = technology-refused
