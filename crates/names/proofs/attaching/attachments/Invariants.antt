use Rattle.names.proofs.AttachmentLists.{HasAttachments}
use Rattle.names.proofs.attaching.attachments.Given as goal

abbrev pub invariant-loop-label : goal.invariant-loop-label
invariant-loop-label l = HasAttachments l.tech l.tiles l.labels l.label-index l.found.items
