-- Which members stand in which pieces, by the tiles that cover these.
use Rattle.std.specs.Prelude.{ℕ, suc, List, [], ◌∷◌, ◌++◌, map, slice_index}
use Rattle.partition.specs.Divides.{Divides, IsPair}
use Rattle.offences.specs.declared.plane_stacks.PlaneStack.{PlaneStack}

-- The members that have the tiles which cover the piece, each with the index of the piece. Each tile has the number of its member.
abbrev pub piece_pairs : List ℕ → ℕ → PlaneStack → List (ℕ × ℕ)
piece_pairs numbers index piece = map (λ tile. (slice_index numbers tile, index)) piece.stack.members

-- the same of all pieces, whose indices are counted from this one
abbrev pub pairs_from : List ℕ → ℕ → List PlaneStack → List (ℕ × ℕ)
pairs_from numbers index [] = []
pairs_from numbers index (piece ∷ rest) = piece_pairs numbers index piece ++ pairs_from numbers (suc index) rest

-- the members of all pieces
abbrev pub member_pairs : List ℕ → List PlaneStack → List (ℕ × ℕ)
member_pairs numbers stacks = pairs_from numbers 0 stacks

-- whatever pairs divide the old marks, those and these divide the new
abbrev pub AddsPairs : List ℕ → List ℕ → List (ℕ × ℕ) → Type 0
AddsPairs old new added = (pairs : List (ℕ × ℕ)) → Divides old (IsPair pairs) → Divides new (IsPair (pairs ++ added))
