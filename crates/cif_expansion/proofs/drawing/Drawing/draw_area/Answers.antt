use Rattle.cif_expansion.proofs.Common.{◌∙◌}
use Rattle.cif_expansion.proofs.AddedLaws.{replaced_longer}
use Rattle.cif_expansion.proofs.drawing.Drawing.draw_area.Goals as goal

pub returns-clause-drawn : goal.returns-clause-drawn
returns-clause-drawn c = replaced_longer c.args.self.now.boxes.items c.args.layer _ _ _ _ _ _ c.requires.layer c.index_mut.ensures.value c.replace.ensures.value
    c.into_vec-boxes.ensures (c.of.ensures ∙ c.in_ok-push_images.ensures.pushed)
