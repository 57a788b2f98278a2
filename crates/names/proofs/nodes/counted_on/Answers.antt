use Rattle.names.proofs.Common.{List, Option, length, subst, IfOk-weaker, RegionTile, Attachment, AreCounted, AreCountedOn, text_at, region_found}
use Rattle.names.specs.declared.counting.Counted.{Counted}
use Rattle.names.specs.steps.TakenLabels.{AreAttachments}
use Rattle.names.proofs.AttachmentLists.{attachments_moved}
use Rattle.names.proofs.nodes.counted_on.Goals as goal

pub returns : goal.returns
returns c =
    let raw = c.args.tech.now in
    let tiles = c.args.tiles.now in
    let labels = c.args.labels.now in
    let sorted = c.in_ok-sorted.sorted.items in
    let found = c.in_ok-found.found.items in
    let attached : AreAttachments raw sorted labels found = subst (λ (v : List RegionTile). AreAttachments raw v labels found) c.as_slice-2.ensures.value
    c.in_ok-found.ensures in
    IfOk-weaker c.count_labels.result
    (λ (made : Counted). AreCounted (text_at labels) (region_found c.as_slice-4.result.now) (length labels) made.named.items made.pairs.items)
    (AreCountedOn raw tiles labels)
    (λ made are. record {
      found = found;
      attached = attachments_moved raw tiles sorted labels found c.in_ok-sorted.ensures attached;
      are = subst (λ (v : List (Option Attachment)). AreCounted (text_at labels) (region_found v) (length labels) made.named.items made.pairs.items)
          c.as_slice-4.ensures.value are;
    }) c.count_labels.ensures
