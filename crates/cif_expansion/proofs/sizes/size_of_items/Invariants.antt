use Rattle.cif_expansion.proofs.Common.{◌≡◌, List, map, take, capped}
use Rattle.cif_model.specs.Sizes.{CifSize, size_of_items}
use Rattle.cif_expansion.proofs.sizes.size_of_items.Given as goal

abbrev pub invariant-loop-item : goal.invariant-loop-item
invariant-loop-item l = (known : List CifSize) → l.sizes ≡ map capped known → l.size ≡ capped (size_of_items known (take l.item-index l.items))
