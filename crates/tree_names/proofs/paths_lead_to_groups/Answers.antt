use Rattle.tree_names.proofs.ToGroups.{to_group}
use Rattle.tree_names.proofs.paths_lead_to_groups.Goals as goal

pub returns : goal.returns
returns c = λ raw exts tree formed rules. to_group raw formed rules exts tree
