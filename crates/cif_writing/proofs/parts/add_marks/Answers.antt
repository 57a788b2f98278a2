use Rattle.cif_writing.proofs.Common.{◌+◌, length, map, PartSet, is_second_image, own_mark}
use Rattle.cif_writing.proofs.PartLaws.{made_on}
use Rattle.cif_writing.proofs.parts.add_marks.Goals as goal

pub loop-t-preserved : goal.loop-t-preserved
loop-t-preserved c =
    made_on (own_mark c.args.tech.now) (is_second_image c.args.tech.now) c.loop-t.t (length c.items.result.now + 1)
    (map (λ (part : PartSet). part.0) c.loop-t.parts.items) (map (λ (part : PartSet). part.0) c.add_mark.new.parts.items) _ c.loop-t-test.true
    c.loop-t.invariant c.in_ok-add_mark.ensures
