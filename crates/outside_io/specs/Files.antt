-- The files of a shelf: what bytes each name has.
use Rattle.std.specs.Prelude.{◌≡◌, ◌≢◌, ℕ, List, Option, Some, None}
use Rattle.std.specs.Ordering.{nat_cmp}
use Rattle.std.specs.Cmp.Lexicographic.{slice_cmp}
use Rattle.std.specs.FinMap as map

-- Finitely many names, each with its bytes.
abbrev pub Files : Type 0
Files = map.FinMap (slice_cmp nat_cmp) (List ℕ)

-- No names.
abbrev pub no_files : Files
no_files = map.empty

-- The bytes of a name, if it is there.
abbrev pub bytes_of : Files → List ℕ → Option (List ℕ)
bytes_of files name = map.get files name

-- The names that have a file: each once, in the order of their bytes.
abbrev pub names_of : Files → List (List ℕ)
names_of files = map.keys files

-- The files with these bytes under the name, and all other names as they were.
abbrev pub with_file : Files → List ℕ → List ℕ → Files
with_file files name bytes = map.insert files name bytes

-- The same of what a shelf tells. What is not told stays so.
abbrev pub told_with_file : Option Files → List ℕ → List ℕ → Option Files
told_with_file None name bytes = None
told_with_file (Some files) name bytes = Some (with_file files name bytes)

-- All names but this one have the bytes that they had.
abbrev pub SameElsewhere : List ℕ → Files → Files → Type 0
SameElsewhere name old new = (other : List ℕ) → other ≢ name → bytes_of new other ≡ bytes_of old other

-- The same of what a shelf tells. What is not told stays so.
abbrev pub ToldSameElsewhere : List ℕ → Option Files → Option Files → Type 0
ToldSameElsewhere name None None = Unit {0}
ToldSameElsewhere name (Some old) (Some new) = SameElsewhere name old new
ToldSameElsewhere name None (Some new) = ⊥
ToldSameElsewhere name (Some old) None = ⊥
