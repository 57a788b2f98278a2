-- What is written behind a text.
use Rattle.std.specs.Prelude.{◌≡◌, ◌<◌, ℕ, List, ◌++◌, length}
use Rattle.text_scan.specs.Written.{text_of}
use Rattle.cif_writing.specs.declared.limits.TheConstants.{LONGEST_TEXT}

-- Lines of which this holds were written behind a text.
pub record Writes (Are : List (List ℕ) → Type 0) (old new : List ℕ) : Type 0 where
  pub lines : List (List ℕ)
  pub are : Are lines
  pub is : new ≡ old ++ text_of lines

-- The text is too long with these lines behind it.
abbrev pub IsTooLongWith : List (List ℕ) → List ℕ → Type 0
IsTooLongWith lines text = LONGEST_TEXT < length (text ++ text_of lines)

-- The text is too long with all lines behind it of which this holds.
abbrev pub AreTooLong : (List (List ℕ) → Type 0) → List ℕ → Type 0
AreTooLong Are text = (lines : List (List ℕ)) → Are lines → IsTooLongWith lines text
