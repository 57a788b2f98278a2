use Rattle.std.proofs.Common.{codes, pos}
use Rattle.std.proofs.lemmas.Result.{IfOk-weaker}
use Rattle.text_scan.specs.Decimal.{decimal}
use Rattle.line_answers.proofs.TextLaws.{numbered_name}
use Rattle.network_runs.proofs.refusals.append_no_node.Goals as goal

pub returns : goal.returns
returns c =
    IfOk-weaker c.append_with_name.result _ _
    (λ _ is. numbered_name c.args.text.now.items (codes "E20 no node ") (decimal (pos c.args.line)) (codes " ") c.args.name.now
    c.append_numbered.new.text.items c.append_with_name.new.text.items c.in_ok-append_numbered.ensures is)
    c.append_with_name.ensures
