use Rattle.mag_text.proofs.Common.{◌≡◌, ◌<◌, ℕ, length, slice_index_or, layout_of, LayerStrips, AreLayerStrips}
use Rattle.mag_text.proofs.writing.all_strips.Given as goal

abbrev pub invariant-loop-layer : goal.invariant-loop-layer
invariant-loop-layer l = record {
  counted : length l.strips.items ≡ l.layer;
  each : (layer : ℕ) (other : LayerStrips) → layer < l.layer → AreLayerStrips l.tech (layout_of l.paint) layer (slice_index_or l.strips.items layer other);
}
