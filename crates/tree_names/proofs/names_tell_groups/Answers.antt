use Rattle.tree_names.proofs.GroupNames.{group_name_along, members_together, one_group, one_group_name}
use Rattle.tree_names.proofs.names_tell_groups.Goals as goal

pub returns : goal.returns
returns c = λ raw tree formed is. record {
  members = members_together raw formed tree is;
  groups = one_group raw formed tree is;
  one = one_group_name raw tree;
  along = group_name_along raw tree;
}
