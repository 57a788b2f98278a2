use Rattle.cif_expansion.proofs.Common.{◌≡◌, map, take, capped}
use Rattle.cif_model.specs.Sizes.{sizes_of}
use Rattle.cif_expansion.proofs.sizes.sizes_of.Given as goal

abbrev pub invariant-loop-symbol : goal.invariant-loop-symbol
invariant-loop-symbol l = l.sizes.items ≡ map capped (sizes_of (take l.symbol-index l.symbols))
