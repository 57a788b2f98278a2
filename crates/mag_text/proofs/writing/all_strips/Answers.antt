use Rattle.mag_text.proofs.Common.{layout_of}
use Rattle.mag_text.proofs.WrittenTextLaws.{strips_more, strips_counted}
use Rattle.mag_text.proofs.writing.all_strips.Goals as goal

pub loop-layer-preserved : goal.loop-layer-preserved
loop-layer-preserved c =
    let invariant = c.loop-layer.invariant in
    record {
      counted = strips_counted c.loop-layer.strips.items c.put.new.strips.items c.in_ok-layer_strips.field-0 c.loop-layer.layer invariant.counted
          c.in_ok-put.ensures;
      each = strips_more c.args.tech.now (layout_of c.args.paint.now) c.loop-layer.strips.items c.put.new.strips.items c.in_ok-layer_strips.field-0
          c.loop-layer.layer
          invariant.counted c.in_ok-put.ensures c.in_ok-layer_strips.ensures invariant.each;
    }
