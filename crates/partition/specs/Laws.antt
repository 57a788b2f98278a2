-- What the clauses on labels are held to: they leave one answer.
use Rattle.std.specs.Prelude.{◌≡◌, ℕ, List, length}
use Rattle.partition.specs.Divides.{Divides, IsPair}
use Rattle.partition.specs.Marks.{IsNumbered}

-- two numbered lists of labels, as long, that the same pairs divide are one, and so are their counts
abbrev pub LabelsAreUnique : Type 0
LabelsAreUnique =
    (pairs : List (ℕ × ℕ)) (labels others : List ℕ) (count number : ℕ) → length labels ≡ length others
    → Divides labels (IsPair pairs) → Divides others (IsPair pairs) → IsNumbered labels count → IsNumbered others number
    → (labels ≡ others) × (count ≡ number)
