-- The rectangles below the index are painted once those that are gathered are; at the end none is left.
use Rattle.mag_text.proofs.Common.{◌≡◌, [], length, layout_of}
use Rattle.mag_text.proofs.DrawingSteps.{AreGathered}
use Rattle.mag_text.proofs.painting.paint_all.Given as goal

abbrev pub invariant-loop-index : goal.invariant-loop-index
invariant-loop-index l = record {
  kinds : l.paint.kinds ≡ l.tech.types;
  planes : length l.paint.planes ≡ length l.tech.planes;
  gathered : AreGathered l.tech l.drawn l.index l.areas.items (layout_of l.paint);
  done : l.index ≡ length l.drawn → l.areas.items ≡ [];
}
