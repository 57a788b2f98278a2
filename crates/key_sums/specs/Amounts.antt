-- Amounts that count for keys.
use Rattle.std.specs.Prelude.{◌==◌, ℕ, ℤ, pos, if◌then◌else◌, List}
use Rattle.finite_sets.specs.Total.{sum_on}
use Rattle.key_sums.specs.declared.Amount.{Amount}

-- what an amount counts for a key
abbrev pub counts_for : ℕ → Amount → ℤ
counts_for key amount = if amount.key == key then amount.value else pos 0

-- the sum of the amounts of a key
abbrev pub sum_of : ℕ → List Amount → ℤ
sum_of key amounts = sum_on (counts_for key) amounts
