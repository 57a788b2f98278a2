use Rattle.layout_gen.proofs.Common.{◌∙◌, subst, sym, true≢false, RawTech, AreLayers}
use Rattle.layout_gen.proofs.Refusals.{room_told}
use Rattle.layout_gen.proofs.checks.check_layers.Goals as goal

pub returns-in-Ok-2-clause-told : goal.returns-in-Ok-2-clause-told
returns-in-Ok-2-clause-told c edits =
    room_told c.args.library.now c.in-Ok-2.field-0 edits c.requires
    (subst (λ (raw : RawTech). AreLayers raw c.in-Ok-2.field-0) c.tech.ensures c.in-Ok-2.ensures.layers)
    (λ fits. true≢false (sym (c.has_room.ensures.1 fits) ∙ c.if-has_room.false))
