-- The words of a command: its upper-case letters, each by itself, and its numbers.
use Rattle.std.specs.Prelude.{◌==◌, ◌&&◌, not, ℕ, ℤ, Bool, false, if◌then◌else◌, List, [], ◌∷◌, map, Result, Ok, Err}
use Rattle.std.specs.Char.{is_ascii_uppercase}
use Rattle.std.specs.Int.{int_max, int_min}
use Rattle.std.specs.List.{onto_first}
use Rattle.text_scan.specs.declared.numeral.NumFault.{NumFault}
use Rattle.text_scan.specs.Numbers.{integer_of}
use Rattle.cif_forms.specs.declared.words.CifWord.{CifWord}
use Rattle.cif_forms.specs.declared.words.CifWord.TheVariants.{B, C, D, F, M, P, R, S, T, W, X, Y, Letter, Number, Broken}
use Rattle.cif_forms.specs.declared.limits.TheConstants.{HIGHEST, LOWEST}
use Rattle.cif_forms.specs.Bytes.{is_numeral, is_blank}

-- the bytes begin with one of a number
abbrev pub begins_with_numeral : List ℕ → Bool
begins_with_numeral [] = false
begins_with_numeral (byte ∷ bytes) = is_numeral byte

-- Bytes of numbers that stand side by side are one word; any other byte that is no blank is a word by itself.
abbrev pub words_in : List ℕ → List (List ℕ)
words_in [] = []
words_in (byte ∷ bytes) =
    if is_blank byte then words_in bytes
    else if is_numeral byte && begins_with_numeral bytes then onto_first byte (words_in bytes)
    else (byte ∷ []) ∷ words_in bytes

-- a number is held as itself if it has 32 bits, and else as the nearest that has not
abbrev pub held : Result ℤ NumFault → CifWord
held (Ok z) = Number (int_max (int_min z HIGHEST) LOWEST)
held (Err fault) = Broken

-- an upper-case letter by its code
abbrev pub letter_of : ℕ → CifWord
letter_of byte =
    if byte == 66 then B else if byte == 67 then C else if byte == 68 then D else if byte == 70 then F
    else if byte == 77 then M else if byte == 80 then P else if byte == 82 then R else if byte == 83 then S
    else if byte == 84 then T else if byte == 87 then W else if byte == 88 then X else if byte == 89 then Y
    else Letter

-- what a word is; `Broken` is one that is neither a letter nor a number, such as `)`, `-` or `3-4`
abbrev pub word_of : List ℕ → CifWord
word_of (byte ∷ []) = if is_ascii_uppercase byte then letter_of byte else held (integer_of (byte ∷ []))
word_of word = held (integer_of word)

-- the words of a command
unfoldable pub words_of : List ℕ → List CifWord
words_of bytes = map word_of (words_in bytes)

-- a byte that is none of a number
abbrev pub is_no_numeral : ℕ → Bool
is_no_numeral byte = not (is_numeral byte)

-- the bytes from the first that is no blank on
abbrev pub from_first_word : List ℕ → List ℕ
from_first_word [] = []
from_first_word (byte ∷ bytes) = if is_blank byte then from_first_word bytes else byte ∷ bytes

-- the number that stands for those past all that are held, below or above them
abbrev pub past_all : Bool → ℤ
past_all negative = if negative then LOWEST else HIGHEST
