use Rattle.cif_writing.proofs.Common.{◌+◌, length, map, PartSet, parts_of, is_atom}
use Rattle.cif_writing.proofs.PartLaws.{made_on}
use Rattle.cif_writing.proofs.parts.add_atoms.Goals as goal

pub loop-t-preserved : goal.loop-t-preserved
loop-t-preserved c =
    made_on (parts_of c.args.tech.now) (is_atom c.args.tech.now) c.loop-t.t (length c.items.result.now + 1)
    (map (λ (part : PartSet). part.0) c.loop-t.parts.items) (map (λ (part : PartSet). part.0) c.add_atom.new.parts.items) _ c.loop-t-test.true
    c.loop-t.invariant c.in_ok-add_atom.ensures
