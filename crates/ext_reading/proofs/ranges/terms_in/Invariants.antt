use Rattle.ext_reading.proofs.Common.{◌≡◌, [], length, terms_from}
use Rattle.std.specs.Vec.Iter.{into_iter_items, into_iter_len}
use Rattle.ext_reading.proofs.ranges.terms_in.Given as goal

-- what the terminals that are left add is what all of them give
abbrev pub invariant-loop-side : goal.invariant-loop-side
invariant-loop-side l = record {
  rest : terms_from l.terms.items (into_iter_items l.side-iterator) ≡ terms_from [] l.fn.sides;
  count : into_iter_len l.side-iterator ≡ length (into_iter_items l.side-iterator);
}
