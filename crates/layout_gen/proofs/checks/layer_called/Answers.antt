use Rattle.layout_gen.proofs.Common.{◌≡◌, ℕ, Option, Some, None, ap, arith, sym, option_map}
use Rattle.finite_sets.proofs.Searches.{position_from-below}
use Rattle.tech_model.specs.declared.raw.LayerId.{LayerId}
use Rattle.tech_model.specs.Types.{has_name, layer_named, layer_number}
use Rattle.layout_gen.proofs.checks.layer_called.Goals as goal

-- the number of a layer that is found
number_found : (found : Option ℕ) (layer : LayerId) → Some layer ≡ option_map layer_number found → found ≡ Some layer.0
number_found None layer is = cc
number_found (Some number) layer is = let same : layer ≡ layer_number number = cc in ap (λ (l : LayerId). Some l.0) (sym same)

pub returns-in-Some-clause-below : goal.returns-in-Some-clause-below
returns-in-Some-clause-below c =
    let raw = c.args.tech.now in
    let word = c.args.word.now in
    let below = position_from-below (has_name word) 0 raw.layers c.in-Some.layer.0 (number_found (layer_named raw word) c.in-Some.layer c.in-Some.ensures) in
    omega arith
