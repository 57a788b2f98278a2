use Rattle.uniqueness.proofs.OneText.{one_text}
use Rattle.uniqueness.proofs.libraries.cell_texts_are_unique.Goals as goal

pub returns : goal.returns
returns c = one_text
