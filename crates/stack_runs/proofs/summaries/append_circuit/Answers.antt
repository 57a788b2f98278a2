use Rattle.std.specs.Prelude.{pos, codes}
use Rattle.std.proofs.lemmas.Result.{on_ok_weaker}
use Rattle.stack_runs.specs.Summaries.{count_text}
use Rattle.stack_runs.proofs.Growing.{texts_joined}
use Rattle.stack_runs.proofs.summaries.append_circuit.Goals as goal

pub returns : goal.returns
returns c =
    on_ok_weaker c.append_count-2.result
    (texts_joined c.args.text.now.items (count_text (codes "nodes") (pos c.args.summary.now.nodes))
    (count_text (codes "transistors") (pos c.args.summary.now.transistors)) c.append_count.new.text.items c.append_count-2.new.text.items
    c.in_ok-append_count.ensures)
    c.append_count-2.ensures
