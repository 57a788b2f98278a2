use Rattle.cif_expansion.proofs.Common.{◌++◌, ◌∙◌, map, ap, Transform, composed}
use Rattle.cif_expansion.proofs.AddedLaws.{replaced_longer}
use Rattle.cif_expansion.proofs.drawing.Drawing.draw_call.Goals as goal

pub returns-clause-drawn : goal.returns-clause-drawn
returns-clause-drawn c = replaced_longer c.args.self.now.waiting.items c.args.symbol _ _ _ _ _ _ c.requires.symbol c.index_mut.ensures.value
    c.replace.ensures.value c.into_vec-instances.ensures
    (c.of.ensures ∙ c.in_ok-push_instances.ensures
    ∙ ap (λ (call : Transform). c.into_vec-instances.result.items ++ map (composed call) c.args.placements.now) c.of_steps-call.ensures.value)
