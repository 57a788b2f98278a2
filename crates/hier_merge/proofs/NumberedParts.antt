-- Parts that are made from their positions.
use Rattle.hier_merge.proofs.Common.{◌≡◌, ◌<◌, ℕ, List, length, map, sym, ◌∙◌, ap, arith, Some, slice_get, range_with_len, slice_get_within}
use Rattle.hier_merge.proofs.Common.{slice_get-get_or, get_or_from_slice_get, length-map-range_with_len, SetLayout}
use Rattle.std.proofs.lemmas.List.FromFn.{get_or-map-range_with_len}

-- the parts of the first so many positions
abbrev pub numbered : (ℕ → SetLayout) → ℕ → List SetLayout
numbered make count = map make (range_with_len 0 count)

-- what stands at a position is made from it
pub made_from : (make : ℕ → SetLayout) (count position : ℕ) (part : SetLayout) → slice_get (numbered make count) position ≡ Some part
    → make position ≡ part
made_from make count position part there =
    let below : position < length (numbered make count) = slice_get_within (numbered make count) position part there in
    let long : length (numbered make count) ≡ count = length-map-range_with_len make 0 count in
    sym (get_or-map-range_with_len make 0 count position position part (omega arith) (omega arith))
    ∙ get_or_from_slice_get (numbered make count) position part part there

-- and what is made from a position stands there
pub stands_made : (make : ℕ → SetLayout) (count position : ℕ) → position < count → slice_get (numbered make count) position ≡ Some (make position)
stands_made make count position below =
    let long : length (numbered make count) ≡ count = length-map-range_with_len make 0 count in
    slice_get-get_or (numbered make count) position (make position) (omega arith)
    ∙ ap (λ (part : SetLayout). Some part) (get_or-map-range_with_len make 0 count position position (make position) below (omega arith))
