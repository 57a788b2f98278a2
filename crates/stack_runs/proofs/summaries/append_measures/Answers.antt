use Rattle.std.specs.Prelude.{codes}
use Rattle.std.proofs.lemmas.Result.{on_ok_weaker}
use Rattle.stack_runs.specs.Summaries.{count_text}
use Rattle.stack_runs.proofs.Growing.{texts_joined}
use Rattle.stack_runs.proofs.summaries.append_measures.Goals as goal

pub returns : goal.returns
returns c =
    on_ok_weaker c.append_sum-2.result
    (texts_joined c.args.text.now.items (count_text (codes "area") c.args.summary.now.area)
    (count_text (codes "perimeter") c.args.summary.now.perimeter) c.append_sum.new.text.items c.append_sum-2.new.text.items
    c.in_ok-append_sum.ensures)
    c.append_sum-2.ensures
