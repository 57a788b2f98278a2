use Rattle.tree_names.proofs.Representatives.{group_has_path}
use Rattle.tree_names.proofs.group_names_are_paths.Goals as goal

pub returns : goal.returns
returns c = group_has_path
