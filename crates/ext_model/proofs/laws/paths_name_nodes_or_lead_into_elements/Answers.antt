use Rattle.ext_model.proofs.RecordNameLaws.{paths_without_slash_name_nodes, paths_with_slash_lead_into_elements}
use Rattle.ext_model.proofs.laws.paths_name_nodes_or_lead_into_elements.Goals as goal

pub returns-clause-whole : goal.returns-clause-whole
returns-clause-whole c = paths_without_slash_name_nodes

pub returns-clause-slashed : goal.returns-clause-slashed
returns-clause-slashed c = paths_with_slash_lead_into_elements
