-- Each rectangle with squares adds its two edges, of numbers that it has.
use Rattle.interact.proofs.Common.{arith, rules, IsOf64Bits}
use Rattle.std.proofs.lemmas.Grind.{common_steps}
use Rattle.std.proofs.lemmas.List.Elements.{All-push}
use Rattle.interact.proofs.edges.both_edges.Goals as goal
use Rattle.interact.proofs.edges.both_edges.Goals.{then-has_square+in_ok-push+in_ok-push-2, else-has_square}

pub loop-rect-preserved : goal.loop-rect-preserved
loop-rect-preserved c = record {
  edges = grind (arith, common_steps);
  fit = elim c.if-has_square.branch [
    | then-has_square+in_ok-push+in_ok-push-2 w ↦ rw (w.found-is, w.in_ok-push-2.ensures.items, w.in_ok-push.ensures.items)
        (All-push IsOf64Bits _ _ (All-push IsOf64Bits _ _ c.loop-rect.invariant.fit
        (record { row = search rules; from = search rules; to = search rules }))
        (record { row = search rules; from = search rules; to = search rules }))
    | else-has_square w ↦ rw w.found-is c.loop-rect.invariant.fit
  ];
}
