use Rattle.std.proofs.Common.{arith, ◌∙◌}
use Rattle.std.proofs.lemmas.Grind.{common_steps}
use Rattle.outside_io.proofs.ToldLaws.{with_back-more}
use Rattle.outside_io.proofs.whole.write_all.Goals as goal

pub loop-done-preserved : goal.loop-done-preserved
loop-done-preserved g c = record {
  in_range = grind (arith, common_steps);
  written = with_back-more _ _ _ _ _ _ _ (grind (arith, common_steps)) c.loop-done.invariant.written c.in_ok-done.ensures.appended;
  calm = c.in_ok-done.ensures.calm ∙ c.loop-done.invariant.calm;
}
