use Rattle.tree_names.proofs.JoinedPaths.{joined_share}
use Rattle.tree_names.proofs.joined_paths_share_flat_nodes.Goals as goal

pub returns : goal.returns
returns c = λ raw exts tree formed rules. joined_share raw formed rules exts tree
