use Rattle.plain_records.proofs.Common.{◌≡◌, suc, ◌+◌, ◌≤◌, min, map, MOST_FLAT_ELEMENTS, value_at, size_from, spread}
use Rattle.plain_records.proofs.SizeLaws.{rest_of}
use Rattle.plain_records.proofs.reach.size_of.Given as goal

-- what is left to be added is that behind the uses from here on
abbrev pub invariant-loop-at : goal.invariant-loop-at
invariant-loop-at l = record {
  small : l.size ≤ suc MOST_FLAT_ELEMENTS;
  total : min (suc MOST_FLAT_ELEMENTS) (l.size + rest_of (value_at l.sizes) l.uses l.children l.at)
      ≡ size_from (map (value_at l.sizes) (spread l.uses l.children));
}
