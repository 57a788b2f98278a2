use Rattle.cif_writing.proofs.Common.{◌≡◌, map, take}
use Rattle.cif_writing.proofs.numbers.SymbolNumbers.of.Given as goal

-- the cells passed have been added
abbrev pub invariant-loop-key : goal.invariant-loop-key
invariant-loop-key l = l.cells.keys ≡ map (λ key. key.0) (take l.key-index l.order)
