use Rattle.vector_runs.proofs.Common.{arith, ◌∙◌, standing}
use Rattle.vector_runs.proofs.RunningLines.{ran_next}
use Rattle.vector_runs.proofs.progress.Progress.run_lines.Goals as goal

pub loop-line-preserved : goal.loop-line-preserved
loop-line-preserved c =
    let before = c.loop-line.invariant in
    let does = c.in_ok-run_line.ensures in
    record {
      ran = ran_next c.args.budget c.args.lines.now c.loop-line.line-index c.loop-line-item.result (standing c.args.net.now c.args.self.now)
          (standing c.loop-line.net c.loop-line.self) (standing c.run_line.new.net c.run_line.new.self) c.args.replies.now.items
          c.loop-line.replies.items c.run_line.new.replies.items (omega arith) c.loop-line-item.is before.ran does.ran;
      states = does.states;
      rested = does.rested;
      counted = omega (arith, does.counted);
      nodes = does.nodes ∙ before.nodes;
      switches = does.switches ∙ before.switches;
    }
