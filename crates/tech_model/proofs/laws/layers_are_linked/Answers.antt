use Rattle.tech_model.proofs.TypeLaws.{connects_layer}
use Rattle.tech_model.proofs.WithinLaws.{one_image}
use Rattle.tech_model.proofs.laws.layers_are_linked.Goals as goal

pub returns : goal.returns
returns c = λ raw well_formed s t s_is t_is layers. (connects_layer raw s t s_is t_is layers, one_image raw s t well_formed s_is t_is layers)
