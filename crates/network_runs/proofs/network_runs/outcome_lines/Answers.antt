use Rattle.network_runs.proofs.Common.{◌≡◌, ◌∙◌, ◌++◌, ◌∷◌, [], ap, summary_of, summary_text, reply}
use Rattle.network_runs.proofs.network_runs.outcome_lines.Goals as goal

pub returns : goal.returns
returns c =
    let told : c.reply.result ≡ reply (summary_text (summary_of c.args.n c.args.circuit.now c.args.outcome)) =
    c.reply.ensures ∙ ap reply (c.in_ok-text.ensures ∙ ap summary_text c.in_ok-summary.ensures) in
    c.in_ok-push.ensures.items ∙ (λ i. c.in_ok-lines.ensures i ++ told i ∷ [])
