-- The integers of a range, and the pairs of two lists.
use Rattle.std.specs.Prelude.{ℕ, zero, suc, ℤ, pos, negsuc, ◌+ℤ◌, ◌-ℤ◌, ◌≤ℤ◌, ◌<ℤ◌, List, [], ◌∷◌, ◌++◌, map}

-- z is one of the integers from lo up to, and without, hi
abbrev pub IsBetween : ℤ → ℤ → ℤ → Type 0
IsBetween lo hi z = (lo ≤ℤ z) × (z <ℤ hi)

-- an integer as a natural number, 0 where it is negative
abbrev pub nonnegative_part : ℤ → ℕ
nonnegative_part (pos n) = n
nonnegative_part (negsuc n) = 0

-- how many integers there are from lo up to, and without, hi
abbrev pub extent : ℤ → ℤ → ℕ
extent lo hi = nonnegative_part (hi -ℤ lo)

-- the n integers from lo on
abbrev pub integers_from : ℤ → ℕ → List ℤ
integers_from lo zero = []
integers_from lo (suc n) = lo ∷ integers_from (lo +ℤ pos 1) n

-- the integers from lo up to, and without, hi
abbrev pub integer_range : ℤ → ℤ → List ℤ
integer_range lo hi = integers_from lo (extent lo hi)

-- each thing of the first list with each thing of the second
abbrev pub pairs_of : {X Y : Type 0} → List X → List Y → List (X × Y)
pairs_of [] ys = []
pairs_of (x ∷ xs) ys = map (λ y. (x, y)) ys ++ pairs_of xs ys
