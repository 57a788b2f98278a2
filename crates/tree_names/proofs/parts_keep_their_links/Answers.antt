use Rattle.tree_names.proofs.LiftedLinks.{links_up}
use Rattle.tree_names.proofs.parts_keep_their_links.Goals as goal

pub returns : goal.returns
returns c = λ raw tree formed rules is. links_up raw formed rules tree is.typed is.clean
