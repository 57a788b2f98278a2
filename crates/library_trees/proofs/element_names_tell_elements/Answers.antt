use Rattle.library_trees.proofs.TreeNameLaws.{element_names}
use Rattle.library_trees.proofs.element_names_tell_elements.Goals as goal

pub returns : goal.returns
returns c = element_names c.args.library.now c.lawful.ensures
