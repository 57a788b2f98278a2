use Rattle.fet_regions.proofs.Common.{ℕ, ◌<◌, List, length, get_or, sym, subst, get, All, In-get_or, key_cmp, AreFoundAt}
use Rattle.fet_regions.proofs.transistors.labelled_fets.Goals as goal

pub fets_at-requires-clause-within : goal.fets_at-requires-clause-within
fets_at-requires-clause-within c =
    let lowest = c.in_ok-lowest.lowest.items in
    subst (All (λ (place : ℕ). place < length c.args.tiles.now)) (sym c.as_slice.ensures.value)
    (λ k d below. (c.in_ok-lowest.ensures.channels (get_or lowest k d) (In-get_or lowest k d below)).within)

pub returns : goal.returns
returns c = record {
  sizes = c.in_ok-sizes.sizes;
  lengths = get key_cmp c.in_ok-lengths.lengths;
  lowest = c.in_ok-lowest.lowest.items;
  are_sizes = c.in_ok-sizes.ensures;
  are_lengths = c.in_ok-lengths.ensures;
  are_lowest = c.in_ok-lowest.ensures;
  each = subst (λ (l : List ℕ). AreFoundAt c.args.tiles.now c.args.labels.now c.in_ok-sizes.sizes (get key_cmp c.in_ok-lengths.lengths) l
      c.in_ok-found.found.items) c.as_slice.ensures.value c.in_ok-found.ensures;
}
