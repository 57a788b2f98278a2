use Rattle.mag_text.proofs.Common.{ap, ◌∙◌, RawTech}
use Rattle.mag_text.proofs.WrittenTextLaws.{header_appended}
use Rattle.mag_text.proofs.writing.write_header.Goals as goal

pub returns : goal.returns
returns c =
    header_appended c.args.tech.now.name _ c.args.scale _ _ _ _ (c.bytes.ensures ∙ ap (λ (raw : RawTech). raw.name) c.raw.ensures.value)
    c.in_ok-write_tech.ensures
    c.in_ok-write_scale.ensures c.in_ok-write_no_time.ensures
