use Rattle.ext_model.proofs.PartOrders.{paths_compare_by_parts}
use Rattle.ext_model.proofs.PathOrders.{paths_keep_the_order}
use Rattle.ext_model.proofs.PathNames.{paths_name_below}
use Rattle.ext_model.proofs.laws.full_names_go_by_parts.Goals as goal

pub returns-clause-parts : goal.returns-clause-parts
returns-clause-parts c = paths_compare_by_parts

pub returns-clause-order : goal.returns-clause-order
returns-clause-order c = paths_keep_the_order

pub returns-clause-below : goal.returns-clause-below
returns-clause-below c = paths_name_below
