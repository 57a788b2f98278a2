use Rattle.own_record_laws.proofs.PreferredNames.{one_name}
use Rattle.tree_names.proofs.OwnNames.{one_own_node}
use Rattle.tree_names.proofs.own_names_tell_nodes.Goals as goal

pub returns : goal.returns
returns c = λ raw own formed typed. record {
  nodes = one_own_node raw formed own typed;
  preferred = λ place name other here also. one_name raw own.layout own.labels name other place here also;
}
