use Rattle.vector_runs.proofs.Common.{List, ◌+◌, ap, arith, subst, sym, take, ◌∙◌, StuckFault, Seen, watched, LinesShow, counting, is_left_out}
use Rattle.std.proofs.Common.{Option}
use Rattle.vector_runs.proofs.WatchedRuns.{next_line}
use Rattle.vector_runs.proofs.watching.WatchedRun.watch_lines.Goals as goal

pub loop-number-preserved : goal.loop-number-preserved
loop-number-preserved c =
    let before = c.loop-number.invariant in
    let takes = c.take_line.ensures in
    let line = c.loop-number-item.result in
    let first = watched c.args.net.now c.args.self.now in
    let new = watched c.take_line.new.net c.take_line.new.self in
    let same = ap (λ (stuck : Option StuckFault). is_left_out stuck line.1) before.stuck in
    let shown =
    next_line c.args.budget c.args.self.now.stuck c.args.lines.now c.loop-number.number-index line first (watched c.loop-number.net c.loop-number.self) new
    c.loop-number.seen.items (omega arith) c.loop-number-item.is (λ out. takes.left_out (same ∙ out)) (λ counts. takes.taken (same ∙ counts)) before.shown in
    record {
      shown = subst (λ (seen : List Seen). LinesShow c.args.budget first
          (counting c.args.self.now.stuck (take (c.loop-number.number-index + 1) c.args.lines.now)) new seen)
          (sym (c.in_ok-show.ensures c.loop-number.net)) shown;
      stuck = takes.stuck ∙ before.stuck;
      under_way = takes.under_way;
      counted = omega (arith, takes.counted);
      nodes = takes.nodes ∙ before.nodes;
      switches = takes.switches ∙ before.switches;
    }
