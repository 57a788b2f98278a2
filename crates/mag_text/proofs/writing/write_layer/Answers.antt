use Rattle.mag_text.proofs.Common.{sym, ◌∙◌}
use Rattle.mag_text.proofs.WrittenTextLaws.{layer_appended}
use Rattle.mag_text.proofs.writing.write_layer.Goals as goal

pub returns : goal.returns
returns c =
    layer_appended c.args.tech.now c.args.strips.now _ _ _ _ _ c.items-areas.ensures (sym c.is_empty.ensures ∙ c.if-is_empty.false) c.word_of.ensures
    c.in_ok-write_group.ensures c.in_ok-write_areas.ensures
