use Rattle.session_model.proofs.FileTreeLaws.{one_reading}
use Rattle.session_model.proofs.file_trees.reading_is_one.Goals as goal

pub returns : goal.returns
returns g c = λ kind files read left one other here there. one_reading kind files other here there
