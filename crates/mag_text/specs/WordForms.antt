-- The words of a line one after another, and what follows them.
use Rattle.std.specs.Prelude.{ℕ, zero, suc, List, length, drop}
use Rattle.std.specs.List.{before_first}
use Rattle.text_scan.specs.Words.{is_blank, from_first_word}

-- what follows the first word of a line
unfoldable pub after_word : List ℕ → List ℕ
after_word line = drop (length (before_first is_blank (from_first_word line))) (from_first_word line)

-- what follows the first words of a line, so many
abbrev pub after_words : ℕ → List ℕ → List ℕ
after_words zero line = line
after_words (suc n) line = after_words n (after_word line)
