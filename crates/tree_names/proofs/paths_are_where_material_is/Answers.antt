use Rattle.tree_names.proofs.RecordedNodes.{path_material, some_path}
use Rattle.tree_names.proofs.paths_are_where_material_is.Goals as goal

pub returns : goal.returns
returns c = λ raw exts tree formed rules is has. record {
  material = path_material raw formed rules tree is;
  some = some_path raw formed rules exts tree is has;
}
