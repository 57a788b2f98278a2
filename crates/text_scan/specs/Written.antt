-- Texts as they are written: one blank between two words, and a line feed behind each line.
use Rattle.std.specs.Prelude.{◌≡◌, ℕ, ◌<◌, ◌==◌, Bool, ◌||◌, false, List, [], ◌∷◌, ◌++◌, length, All, flat_map}
use Rattle.std.specs.List.{join_with_byte}
use Rattle.std.specs.Str.Lines.{strip_carriage_return}
use Rattle.text_scan.specs.Lines.{is_line_feed}
use Rattle.text_scan.specs.Words.{is_blank}

-- a blank, a tab, a line feed or a carriage return
abbrev pub is_separator : ℕ → Bool
is_separator byte = is_blank byte || is_line_feed byte || byte == 13

-- some bytes, none of which ends a word or a line
pub record IsWord (word : List ℕ) : Type 0 where
  pub some : 0 < length word
  pub plain : All (λ byte. is_separator byte ≡ false) word

-- bytes without a line feed, and without a carriage return at their end
pub record IsLine (line : List ℕ) : Type 0 where
  pub whole : All (λ byte. is_line_feed byte ≡ false) line
  pub kept : strip_carriage_return line ≡ line

abbrev pub line_of : List (List ℕ) → List ℕ
line_of words = join_with_byte 32 words

abbrev pub text_of : List (List ℕ) → List ℕ
text_of [] = []
text_of (line ∷ lines) = line ++ 10 ∷ text_of lines

-- words, each behind a blank
abbrev pub behind_blanks : List (List ℕ) → List ℕ
behind_blanks words = flat_map (λ word. 32 ∷ word) words
