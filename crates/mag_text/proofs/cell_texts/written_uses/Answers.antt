use Rattle.mag_text.proofs.Common.{◌<◌, ℕ, subst, seen, view_at}
use Rattle.mag_text.proofs.CellTextLaws.{uses_written}
use Rattle.mag_text.proofs.cell_texts.written_uses.Goals as goal

pub loop-k-preserved : goal.loop-k-preserved
loop-k-preserved c =
    let view = seen c.args.library.now in
    uses_written view (view_at view c.args.cell.0).uses c.loop-k.uses.items c.put.new.uses.items c.loop-k.k c.use_written.result
    (subst (λ (n : ℕ). c.loop-k.k < n) c.use_count-count.ensures c.loop-k-test.true) c.loop-k.invariant c.in_ok-put.ensures c.use_written.ensures
