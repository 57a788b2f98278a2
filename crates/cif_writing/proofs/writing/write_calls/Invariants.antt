use Rattle.cif_writing.proofs.Common.{ℕ, List, UseBody, seen, view_at, IsUse}
use Rattle.cif_writing.proofs.WritingLaws.{WritesFirst}
use Rattle.cif_writing.proofs.writing.write_calls.Given as goal

-- the uses passed have been written
abbrev pub invariant-loop-k : goal.invariant-loop-k
invariant-loop-k l =
    WritesFirst (λ k (entry : List ℕ × UseBody) calls. IsUse (seen l.library) l.numbers entry.1 calls) 1 (view_at (seen l.library) l.cell.0).uses l.k
    l.initial.out.items l.out.items
