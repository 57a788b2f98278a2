-- The lines of a text.
use Rattle.std.specs.Prelude.{ℕ, Bool, ◌==◌, List, [], ◌∷◌, length, map, if◌then◌else◌}
use Rattle.std.specs.List.{slice_split}
use Rattle.std.specs.Str.Lines.{strip_carriage_return}

-- a byte that ends a line
abbrev pub is_line_feed : ℕ → Bool
is_line_feed byte = byte == 10

-- the parts, without the last one where that is empty
abbrev pub without_empty_last : List (List ℕ) → List (List ℕ)
without_empty_last [] = []
without_empty_last (part ∷ []) = if length part == 0 then [] else part ∷ []
without_empty_last (part ∷ next ∷ parts) = part ∷ without_empty_last (next ∷ parts)

-- A line feed ends each line, and may be missing after the last one.
-- One carriage return at a line's end is no part of it.
unfoldable pub lines_of : List ℕ → List (List ℕ)
lines_of text = map strip_carriage_return (without_empty_last (slice_split is_line_feed text))
