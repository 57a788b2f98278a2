use Rattle.cif_writing.proofs.Common.{seen, view_at, part_sets, IsPart}
use Rattle.cif_writing.proofs.WritingLaws.{WritesFirst}
use Rattle.cif_writing.proofs.writing.write_parts.Given as goal

-- the parts passed have been written
abbrev pub invariant-loop-place : goal.invariant-loop-place
invariant-loop-place l =
    WritesFirst (IsPart l.library.tech (view_at (seen l.library) l.cell.0).own) 1 (part_sets l.library.tech) l.place l.initial.out.items l.out.items
