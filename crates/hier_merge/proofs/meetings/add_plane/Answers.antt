use Rattle.hier_merge.proofs.Common.{◌++◌, ℕ, List, map, ap, ◌∙◌, Rect}
use Rattle.hier_merge.proofs.meetings.add_plane.Goals as goal

pub returns : goal.returns
returns c = record {
  found = c.in_ok-stacks.field-0.stacks.items;
  strips = c.in_ok-stacks.field-0.offending.items;
  has = c.in_ok-stacks.ensures;
  stacks = c.in_ok-add_stacks.ensures;
  offending = c.in_ok-add_strips.ensures
      ∙ ap (λ (strips : List Rect). c.args.pieces.now.offending.items ++ map {B = ℕ × Rect} (λ area. (c.args.plane, area)) strips) c.as_slice.ensures.value;
}
