-- What an object of the outside tells of its bytes: a list of them, or nothing.
use Rattle.std.specs.Prelude.{ℕ, List, ◌++◌, take, ◌≡◌}
use Rattle.std.specs.Prelude.{Option, Some, None}

abbrev pub ToldBytes : Type 0
ToldBytes = Option (List ℕ)

-- These bytes and then the told ones. What is not told stays so.
abbrev pub with_front : List ℕ → ToldBytes → ToldBytes
with_front bytes None = None
with_front bytes (Some rest) = Some (bytes ++ rest)

-- The told bytes and then these. What is not told stays so.
abbrev pub with_back : ToldBytes → List ℕ → ToldBytes
with_back None bytes = None
with_back (Some before) bytes = Some (before ++ bytes)

-- The new bytes are the old ones and then some of these, from the first on.
abbrev pub AppendsPrefix : ToldBytes → ToldBytes → List ℕ → Type 0
AppendsPrefix old new bytes = (count : ℕ) × (new ≡ with_back old (take count bytes))
