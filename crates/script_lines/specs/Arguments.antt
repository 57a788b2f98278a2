-- The further words of a line: what each is to be, and what it gives.
use Rattle.std.specs.Prelude.{◌&&◌, ◌+◌, ◌-◌, ◌∷◌, ◌++◌, ℕ, zero, suc, ℤ, pos, int_le, Bool}
use Rattle.std.specs.Prelude.{true, false, is_ok, if◌then◌else◌, List, [], take, drop, length, Result, Ok, Err}
use Rattle.std.specs.Prelude.{slice_index_or}
use Rattle.std.specs.List.{before_first}
use Rattle.std.specs.Result.{result_unwrap_or}
use Rattle.geo_core.specs.declared.squares.Rect.{Rect}
use Rattle.text_scan.specs.Numbers.{integer_of}
use Rattle.text_scan.specs.PlainNames.{is_plain_name}
use Rattle.text_scan.specs.Words.{words_of, is_blank, from_first_word}
use Rattle.cell_bodies.specs.Words.{is_use_id, is_label_text, without_outer_blanks}
use Rattle.cell_bodies.specs.declared.limits.TheConstants.{LAST_POSITION}
use Rattle.script_lines.specs.declared.faults.LineFault.{LineFault}
use Rattle.script_lines.specs.declared.faults.LineFault.TheVariants.{BadForm, NumberRange}
use Rattle.script_lines.specs.declared.limits.TheConstants.{LEAST_NUMBER, GREATEST_NUMBER, MOST_GENERATED}

-- What a further word of a line is to be.
pub data ArgumentKind : Type 0 where
  -- the name of a cell or of a file
  Plain : ArgumentKind
  -- any word
  Layer : ArgumentKind
  -- the id of a use
  UseId : ArgumentKind
  -- a number
  Number : ArgumentKind
  -- the number of a position
  Position : ArgumentKind
  -- how many are to be made
  Count : ArgumentKind
  -- the text of a label
  Text : ArgumentKind

-- some digits, however many, and a minus before them or none
abbrev pub is_number : List ℕ → Bool
is_number word = is_ok (integer_of word)

-- the number that a word writes, and 0 where it is none
abbrev pub number_in : List ℕ → ℤ
number_in word = result_unwrap_or (integer_of word) (pos 0)

-- the word is of the form that it is to have
abbrev pub is_formed : ArgumentKind → List ℕ → Bool
is_formed Plain word = is_plain_name word
is_formed Layer word = true
is_formed UseId word = is_use_id word
is_formed Number word = is_number word
is_formed Position word = is_number word
is_formed Count word = is_number word
is_formed Text word = is_label_text word

abbrev pub is_between : ℤ → ℤ → ℤ → Bool
is_between least greatest z = int_le least z && int_le z greatest

-- a word that is to be a number writes one in its range
abbrev pub is_in_range : ArgumentKind → List ℕ → Bool
is_in_range Plain word = true
is_in_range Layer word = true
is_in_range UseId word = true
is_in_range Number word = is_between LEAST_NUMBER GREATEST_NUMBER (number_in word)
is_in_range Position word = is_between (pos 0) (pos LAST_POSITION) (number_in word)
is_in_range Count word = is_between (pos 1) MOST_GENERATED (number_in word)
is_in_range Text word = true

-- What a further word of a line gives: itself, or the number that it writes.
pub data Argument : Type 0 where
  Word : List ℕ → Argument
  Value : ℤ → Argument

abbrev pub argument_of : ArgumentKind → List ℕ → Argument
argument_of Plain word = Word word
argument_of Layer word = Word word
argument_of UseId word = Word word
argument_of Number word = Value (number_in word)
argument_of Position word = Value (number_in word)
argument_of Count word = Value (number_in word)
argument_of Text word = Word word

-- there is a word for each kind and no other, and each is of the form that it is to have
abbrev pub are_formed : List ArgumentKind → List (List ℕ) → Bool
are_formed [] [] = true
are_formed [] (word ∷ words) = false
are_formed (kind ∷ kinds) [] = false
are_formed (kind ∷ kinds) (word ∷ words) = is_formed kind word && are_formed kinds words

-- the words that are to be numbers are in their ranges
abbrev pub are_in_range : List ArgumentKind → List (List ℕ) → Bool
are_in_range [] words = true
are_in_range (kind ∷ kinds) [] = true
are_in_range (kind ∷ kinds) (word ∷ words) = is_in_range kind word && are_in_range kinds words

abbrev pub arguments_of : List ArgumentKind → List (List ℕ) → List Argument
arguments_of [] words = []
arguments_of (kind ∷ kinds) [] = []
arguments_of (kind ∷ kinds) (word ∷ words) = argument_of kind word ∷ arguments_of kinds words

-- What the words give. A word that is not of its form, wherever it stands, comes before every number out of its range.
unfoldable pub read_words : List ArgumentKind → List (List ℕ) → Result (List Argument) LineFault
read_words kinds words =
    if are_formed kinds words
    then (if are_in_range kinds words then Ok (arguments_of kinds words) else Err NumberRange)
    else Err BadForm

-- the first word of a line
abbrev pub first_word : List ℕ → List ℕ
first_word line = before_first is_blank (from_first_word line)

-- what follows the first word of a line
abbrev pub behind_word : List ℕ → List ℕ
behind_word line = drop (length (first_word line)) (from_first_word line)

-- what follows the first words of a line, so many
abbrev pub behind : ℕ → List ℕ → List ℕ
behind zero line = line
behind (suc count) line = behind count (behind_word line)

-- the last of these is to be a text
abbrev pub takes_text : List ArgumentKind → Bool
takes_text [] = false
takes_text (Text ∷ kinds) = true
takes_text (kind ∷ kinds) = takes_text kinds

-- the first words of a line, so many, and then all that follows them as one more, without the blanks at its ends
abbrev pub words_and_text : ℕ → List ℕ → List (List ℕ)
words_and_text count line = take count (words_of line) ++ without_outer_blanks (behind count line) ∷ []

-- the words of a line for arguments of these kinds: a text is the rest of the line
abbrev pub words_for : List ArgumentKind → List ℕ → List (List ℕ)
words_for kinds line = if takes_text kinds then words_and_text (length kinds - 1) line else words_of line

-- what the rest of a line gives for arguments of these kinds
abbrev pub read_arguments : List ArgumentKind → List ℕ → Result (List Argument) LineFault
read_arguments kinds line = read_words kinds (words_for kinds line)

-- the word at a place among the arguments, from 0
abbrev pub word_in : Argument → List ℕ
word_in (Word word) = word
word_in (Value z) = []

abbrev pub word_at : ℕ → List Argument → List ℕ
word_at place arguments = word_in (slice_index_or arguments place (Word []))

-- the number at a place
abbrev pub value_in : Argument → ℤ
value_in (Word word) = pos 0
value_in (Value z) = z

abbrev pub value_at : ℕ → List Argument → ℤ
value_at place arguments = value_in (slice_index_or arguments place (Value (pos 0)))

-- the four numbers from a place on, as a rectangle
abbrev pub rect_at : ℕ → List Argument → Rect
rect_at place arguments = record {
  xlo = value_at place arguments;
  ylo = value_at (place + 1) arguments;
  xhi = value_at (place + 2) arguments;
  yhi = value_at (place + 3) arguments;
}

-- the six numbers from a place on
abbrev pub six_at : ℕ → List Argument → List ℤ
six_at place arguments =
    value_at place arguments ∷ value_at (place + 1) arguments ∷ value_at (place + 2) arguments ∷ value_at (place + 3) arguments
    ∷ value_at (place + 4) arguments ∷ value_at (place + 5) arguments ∷ []

-- a rectangle as four arguments
abbrev pub area_given : Rect → List Argument
area_given area = Value area.xlo ∷ Value area.ylo ∷ Value area.xhi ∷ Value area.yhi ∷ []

-- a label as seven arguments
abbrev pub label_given : List ℕ → Rect → ℤ → List ℕ → List Argument
label_given layer area position text = Word layer ∷ (area_given area ++ Value position ∷ Word text ∷ [])
