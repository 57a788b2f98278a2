use Rattle.element_tree.proofs.Common.{sym, ◌∙◌, ap}
use Rattle.circuit_model.specs.Elements.{transform_of}
use Rattle.element_tree.proofs.Transforms.{transform_of-six}
use Rattle.element_tree.proofs.elements.transform_of.Goals as goal

pub returns-clause-value : goal.returns-clause-value
returns-clause-value c = sym (transform_of-six c.in-Some.transform) ∙ ap transform_of c.in-Some.ensures.some
