use Rattle.mag_text.proofs.Common.{◌≡◌, ◌∙◌, ap, sym, subst, Draft, AreDrawn}
use Rattle.mag_text.proofs.drafts.MagDraft.into_body.Goals as goal

pub paint_all-requires : goal.paint_all-requires
paint_all-requires c =
    let same : c.as_slice.result.now ≡ c.args.self.drawn = c.as_slice.ensures.value ∙ ap (λ (d : Draft). d.drawn) c.self.view_is in
    subst (AreDrawn c.args.tech.now) (sym same) c.requires
