-- Each step made the list that its contract names.
use Rattle.geo_strips.proofs.Common.{map, ap, subst, ◌∙◌, IsPermutation, joined, strip_of, rect_of}
use Rattle.geo_strips.proofs.strip_lists.strips_of_runs.Goals as goal

pub returns : goal.returns
returns c = record {
  upright = c.sorted-upright.result.items;
  upright_moved = c.sorted-upright.ensures.moved;
  upright_sorted = c.sorted-upright.ensures.sorted;
  ordered = c.in_order-ordered.result.items;
  ordered_moved = subst (λ v. IsPermutation v c.in_order-ordered.result.items)
      (c.in_ok-strips_of.ensures ∙ ap (map strip_of) (c.as_slice-2.ensures.value ∙ c.in_ok-columns.ensures ∙ ap joined c.as_slice.ensures.value))
      c.in_order-ordered.ensures.moved;
  ordered_sorted = c.in_order-ordered.ensures.sorted;
  are = c.in_ok-rects_of.ensures ∙ ap (map rect_of) c.as_slice-3.ensures.value;
}
