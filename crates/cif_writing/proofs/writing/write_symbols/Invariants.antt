use Rattle.cif_writing.proofs.Common.{map, seen, IsSymbol}
use Rattle.cif_writing.proofs.WritingLaws.{WritesFirst}
use Rattle.cif_writing.proofs.writing.write_symbols.Given as goal

-- the symbols of the cells passed have been written
abbrev pub invariant-loop-place : goal.invariant-loop-place
invariant-loop-place l =
    WritesFirst (IsSymbol (seen l.library) l.numbers) 1 (map (λ key. key.0) l.order) l.place l.initial.out.items l.out.items
