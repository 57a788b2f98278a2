-- The decimal text of a number.
use Rattle.std.specs.Prelude.{ℕ, suc, ◌+◌, ◌==◌, List, [], ◌∷◌, map, ℤ, pos, negsuc, if◌then◌else◌}
use Rattle.std.specs.Int.Digits.{digits_of}

-- the digits of a number, the highest first: 0 has one, and no other number starts with it
unfoldable pub natural_text : ℕ → List ℕ
natural_text n = if n == 0 then 48 ∷ [] else map (λ digit. 48 + digit) (digits_of 10 n)

-- a minus comes first where the number is negative
unfoldable pub decimal : ℤ → List ℕ
decimal (pos n) = natural_text n
decimal (negsuc n) = 45 ∷ natural_text (suc n)
