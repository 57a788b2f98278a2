-- Each step made the list that its contract names.
use Rattle.geo_strips.proofs.Common.{◌++◌, map, ap, ◌∙◌, joined, end_of}
use Rattle.geo_strips.proofs.RowEventLaws.{events_are}
use Rattle.geo_strips.proofs.row_events.events.Goals as goal

pub returns : goal.returns
returns c =
    events_are c.args.rects.now c.in_ok-found.found.items c.add_ends.new.events.items c.sort_unstable.new.self.items c.in_ok-tops.field-0.items
    c.sorted-upper.result.items c.in_ok-ends.ends.items
    c.in_ok-found.ensures c.in_ok-tops.ensures c.sorted-upper.ensures.moved c.sorted-upper.ensures.sorted
    (c.in_ok-ends.ensures ∙ ap joined c.as_slice.ensures.value)
    (c.in_ok-add_ends.ensures ∙ ap (λ v. c.in_ok-found.found.items ++ map end_of v) c.as_slice-2.ensures.value) c.sort_unstable.ensures.permutation
    c.sort_unstable.ensures.sorted
