-- The words of a line.
use Rattle.std.specs.Prelude.{ℕ, Bool, ◌==◌, ◌||◌, not, List, length, drop, filter}
use Rattle.std.specs.List.{slice_split, position_or_len}

-- a byte that stands between words: a blank or a tab
abbrev pub is_blank : ℕ → Bool
is_blank byte = byte == 32 || byte == 9

abbrev pub is_in_word : ℕ → Bool
is_in_word byte = not (is_blank byte)

abbrev pub is_word : List ℕ → Bool
is_word piece = not (length piece == 0)

-- the pieces between blanks that are not empty
unfoldable pub words_of : List ℕ → List (List ℕ)
words_of line = filter is_word (slice_split is_blank line)

-- the line from its first word on
abbrev pub from_first_word : List ℕ → List ℕ
from_first_word line = drop (position_or_len is_in_word line) line
