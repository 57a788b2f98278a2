use Rattle.cif_expansion.proofs.StripLaws.{made_more}
use Rattle.cif_expansion.proofs.expansion.strips_of_layers.Goals as goal

pub loop-place-preserved : goal.loop-place-preserved
loop-place-preserved c =
    made_more c.args.names.now c.args.boxes.items c.loop-place.boxes.items c.loop-place.place _ _ _ _ _ _ _ c.loop-place-test.true c.index-names-place.is
    c.index_mut.ensures.value c.replace-own.ensures.value c.in_ok-layer_of.ensures.name c.in_ok-layer_of.ensures.strips c.in_ok-push.ensures.items
    c.loop-place.invariant
