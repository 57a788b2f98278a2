-- Pairs that are joined one after another.
use Rattle.tree_merges.proofs.Common.{◌≡◌, ◌+◌, ◌<◌, ℕ, suc, List, [], ◌∷◌, map, length, take, get_or, sym, ap, subst, ◌∙◌, arith, slice_index}
use Rattle.tree_merges.proofs.Common.{Divides, IsPair, RegionTile, PlaneStack, region_position, AddsPairs, pairs_from, piece_pairs}
use Rattle.std.proofs.Common.{◌++◌}
use Rattle.std.proofs.Common.{append_assoc, append-nil}
use Rattle.std.proofs.lemmas.List.{length-take-le, map-append, take_more}
use Rattle.std.proofs.lemmas.Simd.{map-map}
use Rattle.partition.specs.Divides.{AddsPair}

abbrev pub Pair : Type 0
Pair = ℕ × ℕ

-- no pair changes nothing
pub adds_none : (old : List ℕ) → AddsPairs old old []
adds_none old pairs divides = subst (λ (all : List Pair). Divides old (IsPair all)) (sym (append-nil pairs)) divides

-- and then pairs, and more pairs
pub adds_both : (old middle new : List ℕ) (first second : List Pair) → AddsPairs old middle first → AddsPairs middle new second
    → AddsPairs old new (first ++ second)
adds_both old middle new first second one other pairs divides =
    subst (λ (all : List Pair). Divides new (IsPair all)) (append_assoc pairs first second) (other (pairs ++ first) (one pairs divides))

-- one more pair of a list
pub adds_next : {X : Type 0} (f : X → Pair) (xs : List X) (k : ℕ) (d : X) (old middle new : List ℕ) → k < length xs
    → AddsPairs old middle (map f (take k xs)) → AddsPair middle new (f (get_or xs k d)).0 (f (get_or xs k d)).1
    → AddsPairs old new (map f (take (k + 1) xs))
adds_next {X} f xs k d old middle new below before adds =
    subst (AddsPairs old new)
    (sym (map-append f (take k xs) (get_or xs k d ∷ [])) ∙ sym (ap (map f) (take_more xs k d below)))
    (adds_both old middle new (map f (take k xs)) (f (get_or xs k d) ∷ []) before adds)

-- the pairs of pieces, and those of one more
pub pairs_more : (numbers : List ℕ) (from : ℕ) (stacks : List PlaneStack) (piece : PlaneStack)
    → pairs_from numbers from (stacks ++ piece ∷ []) ≡ pairs_from numbers from stacks ++ piece_pairs numbers (from + length stacks) piece
pairs_more numbers from [] piece =
    append-nil (piece_pairs numbers from piece) ∙ ap (λ (at : ℕ). piece_pairs numbers at piece) (omega arith)
pairs_more numbers from (first ∷ rest) piece =
    ap (λ (more : List Pair). piece_pairs numbers from first ++ more)
    (pairs_more numbers (suc from) rest piece
    ∙ ap (λ (at : ℕ). pairs_from numbers (suc from) rest ++ piece_pairs numbers at piece) (omega arith))
    ∙ sym (append_assoc (piece_pairs numbers from first) (pairs_from numbers (suc from) rest)
    (piece_pairs numbers (from + length (first ∷ rest)) piece))

-- ---- pieces one after another

-- the pairs of members and regions, where so many members have the first numbers and the regions those behind
abbrev pub joined_pairs : ℕ → List RegionTile → List Pair → List Pair
joined_pairs members tiles pairs = map {B = Pair} (λ pair. (pair.0, region_position members tiles pair.1)) pairs

-- of a piece
piece_joins : (numbers : List ℕ) (members : ℕ) (tiles : List RegionTile) (index : ℕ) (piece : PlaneStack) (region : ℕ)
    → region ≡ region_position members tiles index → joined_pairs members tiles (piece_pairs numbers index piece)
    ≡ map {B = Pair} (λ tile. (slice_index numbers tile, region)) piece.stack.members
piece_joins numbers members tiles index piece region is_region =
    map-map (λ (pair : Pair). (pair.0, region_position members tiles pair.1)) (λ (tile : ℕ). (slice_index numbers tile, index)) piece.stack.members
    ∙ ap (λ (there : ℕ). map {B = Pair} (λ tile. (slice_index numbers tile, there)) piece.stack.members) (sym is_region)

-- where the pieces before one are joined, and then that one, all up to it are
pub joins_next : (numbers : List ℕ) (members : ℕ) (tiles : List RegionTile) (stacks : List PlaneStack) (k : ℕ) (piece : PlaneStack)
    (region : ℕ) (old new : List ℕ) → k < length stacks → piece ≡ get_or stacks k piece
    → region ≡ region_position members tiles k
    → Divides old (IsPair (joined_pairs members tiles (pairs_from numbers 0 (take k stacks))))
    → AddsPairs old new (map (λ tile. (slice_index numbers tile, region)) piece.stack.members)
    → Divides new (IsPair (joined_pairs members tiles (pairs_from numbers 0 (take (k + 1) stacks))))
joins_next numbers members tiles stacks k piece region old new below is is_region before adds =
    let up_to : pairs_from numbers 0 (take (k + 1) stacks) ≡ pairs_from numbers 0 (take k stacks) ++ piece_pairs numbers k piece =
    ap (pairs_from numbers 0) (take_more stacks k piece below)
    ∙ ap (λ (p : PlaneStack). pairs_from numbers 0 (take k stacks ++ p ∷ [])) (sym is)
    ∙ pairs_more numbers 0 (take k stacks) piece
    ∙ ap (λ (at : ℕ). pairs_from numbers 0 (take k stacks) ++ piece_pairs numbers at piece)
    (omega (arith, length-take-le k stacks (omega (arith, below)))) in
    subst (λ (pairs : List Pair). Divides new (IsPair pairs))
    (sym (ap (joined_pairs members tiles) up_to
    ∙ map-append (λ (pair : Pair). (pair.0, region_position members tiles pair.1)) (pairs_from numbers 0 (take k stacks))
    (piece_pairs numbers k piece)
    ∙ ap (λ (more : List Pair). joined_pairs members tiles (pairs_from numbers 0 (take k stacks)) ++ more)
    (piece_joins numbers members tiles k piece region is_region)))
    (adds (joined_pairs members tiles (pairs_from numbers 0 (take k stacks))) before)
