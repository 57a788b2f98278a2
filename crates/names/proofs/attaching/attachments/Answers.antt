use Rattle.names.proofs.Common.{subst, arith, get_or_read, Label, no_label, IsAttachment}
use Rattle.names.proofs.AttachmentLists.{attachments_more, attachments_all}
use Rattle.names.proofs.attaching.attachments.Goals as goal

pub loop-label-preserved : goal.loop-label-preserved
loop-label-preserved c =
    let raw = c.args.tech.now in
    let tiles = c.args.tiles.now in
    let labels = c.args.labels.now in
    let n = c.loop-label.label-index in
    attachments_more raw tiles labels n c.loop-label.found.items c.push.new.self.items c.attachment_of.result
    (subst (λ (v : Label). IsAttachment raw tiles v c.attachment_of.result) (get_or_read labels n c.label-item.result c.loop-label-test.true c.label-item.is
    no_label) c.attachment_of.ensures) c.in_ok-push.ensures.items c.loop-label.invariant

pub returns : goal.returns
returns c =
    let past = c.loop-label-test.false in
    let here = c.loop-label.auto.label-index-end in
    attachments_all c.args.tech.now c.args.tiles.now c.args.labels.now c.loop-label.label-index c.loop-label.found.items (omega (arith, past, here))
    c.loop-label.invariant
