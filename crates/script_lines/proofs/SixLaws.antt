-- Six numbers among arguments are these numbers.
use Rattle.script_lines.proofs.Common.{◌≡◌, ℕ, ℤ, List, [], ◌∷◌, length, map, arith, refl, Word, Value}
use Rattle.script_lines.specs.Arguments.{six_at}

all_six : (six : List ℤ) → length six ≡ 6 → six_at 0 (map Value six) ≡ six
all_six [] size = absurd (omega arith)
all_six (a ∷ []) size = absurd (omega arith)
all_six (a ∷ b ∷ []) size = absurd (omega arith)
all_six (a ∷ b ∷ c ∷ []) size = absurd (omega arith)
all_six (a ∷ b ∷ c ∷ d ∷ []) size = absurd (omega arith)
all_six (a ∷ b ∷ c ∷ d ∷ e ∷ []) size = absurd (omega arith)
all_six (a ∷ b ∷ c ∷ d ∷ e ∷ f ∷ []) size = refl
all_six (a ∷ b ∷ c ∷ d ∷ e ∷ f ∷ g ∷ more) size = absurd (omega arith)

-- behind the id of a use
pub six_at-array : (id : List ℕ) (six : List ℤ) → length six ≡ 6 → six_at 1 (Word id ∷ map Value six) ≡ six
six_at-array id six size = all_six six size

-- behind the name of a cell and the id of a use
pub six_at-place : (cell id : List ℕ) (six : List ℤ) → length six ≡ 6 → six_at 2 (Word cell ∷ Word id ∷ map Value six) ≡ six
six_at-place cell id six size = all_six six size
