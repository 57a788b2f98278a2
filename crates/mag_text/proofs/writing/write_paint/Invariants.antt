use Rattle.mag_text.proofs.Common.{◌≡◌, ◌++◌, drop, layer_lines, text_of_each}
use Rattle.mag_text.proofs.writing.write_paint.Given as goal

abbrev pub invariant-loop-layer : goal.invariant-loop-layer
invariant-loop-layer l =
    l.out.items ++ text_of_each (layer_lines l.tech) (drop l.layer-index l.strips) ≡ l.initial.out.items ++ text_of_each (layer_lines l.tech) l.strips
