-- What a command says by its form alone.
--
--     L NAME                    a layer
--     B LENGTH WIDTH X Y        a box by its sides and its centre; a direction may follow, and refuses it
--     DS N A B                  a symbol begins, all of whose numbers are multiplied by A / B; `DS N` is `DS N 1 1`
--     DF                        a symbol ends
--     C N STEPS                 a symbol is called; a step is `M X`, `M Y`, `T X Y` or `R P Q`
--     E                         the text ends
use Rattle.std.specs.Prelude.{◌==◌, ◌&&◌, ◌||◌, nat_lt, ℕ, pos, Bool, true, false, if◌then◌else◌, List, [], ◌∷◌, reverse, length, Some, None}
use Rattle.std.specs.Char.{is_ascii_digit, is_ascii_uppercase}
use Rattle.std.specs.List.{list_all, list_any}
use Rattle.cif_forms.specs.declared.commands.CifCommand.{CifCommand}
use Rattle.cif_forms.specs.declared.commands.CifCommand.TheVariants.{Empty, ReadOver, End, LeftOut, Other, Layer, Start, Finish, Area, Call}
use Rattle.cif_forms.specs.declared.commands.SaidMove.{SaidMove}
use Rattle.cif_forms.specs.declared.commands.SaidMove.TheVariants.{Shift, MirrorX, MirrorY, Toward}
use Rattle.cif_forms.specs.declared.words.CifWord.{CifWord}
use Rattle.cif_forms.specs.declared.words.CifWord.TheVariants.{B, C, D, F, M, P, R, S, T, W, X, Y, Number, Broken}
use Rattle.cif_forms.specs.Words.{words_of, from_first_word}

-- a layer's name is 1 to 4 upper-case letters or digits
abbrev pub is_layer_byte : ℕ → Bool
is_layer_byte byte = is_ascii_uppercase byte || is_ascii_digit byte

abbrev pub is_layer_name : List ℕ → Bool
is_layer_name name = nat_lt 0 (length name) && nat_lt (length name) 5 && list_all is_layer_byte name

-- the bytes without the blanks at their end, and at both ends
abbrev pub without_last_blanks : List ℕ → List ℕ
without_last_blanks bytes = reverse (from_first_word (reverse bytes))

abbrev pub trimmed : List ℕ → List ℕ
trimmed bytes = without_last_blanks (from_first_word bytes)

abbrev pub layer_said : List ℕ → CifCommand
layer_said name = Layer (if is_layer_name name then Some name else None)

-- the steps that words begin with
abbrev pub moves_in : List CifWord → List SaidMove
moves_in (M ∷ X ∷ words) = MirrorX ∷ moves_in words
moves_in (M ∷ Y ∷ words) = MirrorY ∷ moves_in words
moves_in (T ∷ Number x ∷ Number y ∷ words) = Shift x y ∷ moves_in words
moves_in (R ∷ Number p ∷ Number q ∷ words) = Toward p q ∷ moves_in words
moves_in words = []

-- something else stands behind these steps
abbrev pub goes_on : List CifWord → Bool
goes_on [] = false
goes_on (M ∷ X ∷ words) = goes_on words
goes_on (M ∷ Y ∷ words) = goes_on words
goes_on (T ∷ Number x ∷ Number y ∷ words) = goes_on words
goes_on (R ∷ Number p ∷ Number q ∷ words) = goes_on words
goes_on words = true

-- `P`, `W`, `R` and `DD` are left out, whatever follows them
abbrev pub is_left_out : List CifWord → Bool
is_left_out (P ∷ words) = true
is_left_out (W ∷ words) = true
is_left_out (R ∷ words) = true
is_left_out (D ∷ D ∷ words) = true
is_left_out words = false

abbrev pub said_of_box : List CifWord → CifCommand
said_of_box (Number l ∷ Number w ∷ Number x ∷ Number y ∷ []) = Area l w x y false
said_of_box (Number l ∷ Number w ∷ Number x ∷ Number y ∷ Number p ∷ Number q ∷ []) = Area l w x y true
said_of_box words = Other

abbrev pub said_of_call : List CifWord → CifCommand
said_of_call (Number n ∷ words) = Call n (moves_in words) (goes_on words)
said_of_call words = Other

abbrev pub said_of_start : List CifWord → CifCommand
said_of_start (Number n ∷ []) = Start n (pos 1) (pos 1)
said_of_start (Number n ∷ Number a ∷ Number b ∷ []) = Start n a b
said_of_start words = Other

abbrev pub said_of : List CifWord → CifCommand
said_of (B ∷ words) = said_of_box words
said_of (C ∷ words) = said_of_call words
said_of (D ∷ S ∷ words) = said_of_start words
said_of (D ∷ F ∷ []) = Finish
said_of words = Other

abbrev pub is_broken : CifWord → Bool
is_broken Broken = true
is_broken word = false

-- what words say
abbrev pub said_by : List CifWord → CifCommand
said_by words = if is_left_out words then LeftOut else if list_any is_broken words then Other else said_of words

-- what a command says whose first byte is no blank: 69 is `E`, and 76 is `L`
abbrev pub said_from : List ℕ → CifCommand
said_from [] = Empty
said_from (first ∷ bytes) =
    if is_ascii_digit first then ReadOver
    else if first == 69 then End
    else if first == 76 then layer_said (trimmed bytes)
    else said_by (words_of (first ∷ bytes))

unfoldable pub says : List ℕ → CifCommand
says bytes = said_from (from_first_word bytes)
