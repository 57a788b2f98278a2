use Rattle.session_model.proofs.FileTreeLaws.{rests_on_fetched}
use Rattle.session_model.proofs.file_trees.reading_rests_on_fetched.Goals as goal

pub returns : goal.returns
returns g c = λ kind by files others read left reading here agree. rests_on_fetched kind files by others here agree
