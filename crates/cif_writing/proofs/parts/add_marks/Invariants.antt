use Rattle.cif_writing.proofs.Common.{◌≡◌, ◌++◌, map, is_second_image, own_mark, mark_sets}
use Rattle.cif_writing.proofs.PartLaws.{made_from}
use Rattle.cif_writing.proofs.parts.add_marks.Given as goal

-- what was found and what is left are all
abbrev pub invariant-loop-t : goal.invariant-loop-t
invariant-loop-t l =
    map (λ part. part.0) l.parts.items ++ made_from (own_mark l.tech) (is_second_image l.tech) l.t l.end
    ≡ map (λ part. part.0) l.fn.parts.items ++ mark_sets l.tech
