use Rattle.cif_writing.proofs.Common.{◌≡◌, ◌++◌, map, parts_of, is_atom, atom_sets}
use Rattle.cif_writing.proofs.PartLaws.{made_from}
use Rattle.cif_writing.proofs.parts.add_atoms.Given as goal

-- what was found and what is left are all
abbrev pub invariant-loop-t : goal.invariant-loop-t
invariant-loop-t l =
    map (λ part. part.0) l.parts.items ++ made_from (parts_of l.tech) (is_atom l.tech) l.t l.end
    ≡ map (λ part. part.0) l.fn.parts.items ++ atom_sets l.tech
