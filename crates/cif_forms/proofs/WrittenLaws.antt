-- What written commands say.
use Rattle.cif_forms.proofs.Common.{◌≡◌, ℕ, ◌<◌, ◌≤◌, ◌==◌, ◌&&◌, ◌||◌, Bool, true, false, not, cond, List, [], ◌∷◌, ◌++◌, length, map, Some, None}
use Rattle.cif_forms.proofs.Common.{refl, sym, ap, ◌∙◌, arith, is_ascii_digit, is_ascii_uppercase, w32, list_all, flat_map, AllByRecursion}
use Rattle.cif_forms.proofs.Common.{all_ascii_digits, and_from, and_parts, lt-ltb, list_all-append, line_of, all_ascii_digits-natural_text}
use Rattle.cif_forms.proofs.Common.{decimal-std, End, ReadOver, Number, is_blank, is_mark, goes_on, layer_said, moves_in, said_by, trimmed}
use Rattle.cif_forms.proofs.Common.{without_last_blanks, from_first_word, AreUnmarked, is_unmarked_text}
use Rattle.std.proofs.Common.{ℤ, pos, FitsSigned, reverse}
use Rattle.std.specs.Prelude.{codes, nat_lt}
use Rattle.std.specs.List.{list_any}
use Rattle.std.proofs.lemmas.Fmt.{length-decimal-le}
use Rattle.std.proofs.lemmas.List.{reverse-append, reverse-reverse}
use Rattle.std.proofs.lemmas.List.Concat.{flat_map-append}
use Rattle.text_scan.specs.Decimal.{decimal}
use Rattle.text_scan.specs.PlainNames.{is_plain_byte, is_plain_name}
use Rattle.cif_forms.specs.declared.commands.CifCommand.TheVariants.{Other, Layer, Start, Finish, Area, Call}
use Rattle.cif_forms.specs.declared.commands.SaidMove.{SaidMove}
use Rattle.cif_forms.specs.declared.commands.SaidMove.TheVariants.{Shift, MirrorX, MirrorY, Toward}
use Rattle.cif_forms.specs.declared.words.CifWord.{CifWord}
use Rattle.cif_forms.specs.declared.words.CifWord.TheVariants.{B, C, D, M, R, S, T, X, Y}
use Rattle.cif_forms.specs.Commands.{is_broken, is_layer_byte, is_layer_name}
use Rattle.cif_forms.specs.Commands.{says}
use Rattle.cif_forms.specs.Words.{words_of}
use Rattle.cif_forms.specs.Written.{MoveFits, move_words}
use Rattle.cif_forms.proofs.WrittenWords.{decimal-digit, unmarked-decimal, unmarked-decimals, unmarked-kinds, unmarked-line_of}
use Rattle.cif_forms.proofs.WrittenWords.{words_of-decimal, words_of-decimals, words_of-line_of}

-- a line feed before a command says nothing
pub says-line_feed : (bytes : List ℕ) → says (10 ∷ bytes) ≡ says bytes
unfolding says
says-line_feed bytes = refl

-- ---- commands without numbers

-- `E` ends the text, whatever follows it
pub says-end : (bytes : List ℕ) → says (codes "E" ++ bytes) ≡ End
unfolding says
says-end bytes = refl

-- `9 NAME` is read over
pub says-name : (name : List ℕ) → says (line_of (codes "9" ∷ name ∷ [])) ≡ ReadOver
unfolding says
says-name name = refl

-- `DF`
pub says-finish : says (line_of (codes "DF" ∷ [])) ≡ Finish
unfolding says words_of
says-finish = refl

-- ---- a symbol and a box

words_of-B : words_of (codes "B") ≡ B ∷ []
unfolding words_of
words_of-B = refl

words_of-C : words_of (codes "C") ≡ C ∷ []
unfolding words_of
words_of-C = refl

words_of-DS : words_of (codes "DS") ≡ D ∷ S ∷ []
unfolding words_of
words_of-DS = refl

-- the words of a line of a word and numbers
line-words : (word : List ℕ) (letters : List CifWord) (numbers : List ℤ) → words_of word ≡ letters → AllByRecursion (FitsSigned w32) numbers
    → words_of (line_of (word ∷ map decimal numbers)) ≡ letters ++ map Number numbers
line-words word letters numbers is fit =
    words_of-line_of (word ∷ map decimal numbers)
    ∙ (ap (λ words. words ++ flat_map words_of (map decimal numbers)) is ∙ ap (λ words. letters ++ words) (words_of-decimals numbers fit))

-- `DS N A B`
pub says-start : (n a b : ℤ) → FitsSigned w32 n → FitsSigned w32 a → FitsSigned w32 b
    → says (line_of (codes "DS" ∷ map decimal (n ∷ a ∷ b ∷ []))) ≡ Start n a b
unfolding says
says-start n a b n_fits a_fits b_fits =
    ap said_by (line-words (codes "DS") (D ∷ S ∷ []) (n ∷ a ∷ b ∷ []) words_of-DS (n_fits, (a_fits, (b_fits, tt))))

-- `DS N 1 2`, as a cell is written
pub says-half : (n : ℤ) → FitsSigned w32 n → says (line_of (codes "DS" ∷ decimal n ∷ codes "1" ∷ codes "2" ∷ [])) ≡ Start n (pos 1) (pos 2)
says-half n fits =
    ap (λ one. says (line_of (codes "DS" ∷ decimal n ∷ one ∷ codes "2" ∷ []))) (sym (decimal-digit 1 (omega arith)))
    ∙ (ap (λ two. says (line_of (codes "DS" ∷ decimal n ∷ decimal (pos 1) ∷ two ∷ []))) (sym (decimal-digit 2 (omega arith)))
    ∙ says-start n (pos 1) (pos 2) fits (record { sfits = omega arith }) (record { sfits = omega arith }))

-- `B LENGTH WIDTH X Y`
pub says-area : (l w x y : ℤ) → FitsSigned w32 l → FitsSigned w32 w → FitsSigned w32 x → FitsSigned w32 y
    → says (line_of (codes "B" ∷ map decimal (l ∷ w ∷ x ∷ y ∷ []))) ≡ Area l w x y false
unfolding says
says-area l w x y l_fits w_fits x_fits y_fits =
    ap said_by (line-words (codes "B") (B ∷ []) (l ∷ w ∷ x ∷ y ∷ []) words_of-B (l_fits, (w_fits, (x_fits, (y_fits, tt)))))

-- ---- a call

-- the words of a step
abbrev step_said : SaidMove → List CifWord
step_said (Shift x y) = T ∷ Number x ∷ Number y ∷ []
step_said MirrorX = M ∷ X ∷ []
step_said MirrorY = M ∷ Y ∷ []
step_said (Toward p q) = R ∷ Number p ∷ Number q ∷ []

words_of-move : (step : SaidMove) → MoveFits step → flat_map words_of (move_words step) ≡ step_said step
unfolding words_of
words_of-move (Shift x y) fits = ap (λ words. T ∷ words) (words_of-decimals (x ∷ y ∷ []) (fits.0, (fits.1, tt)))
words_of-move MirrorX fits = refl
words_of-move MirrorY fits = refl
words_of-move (Toward p q) fits = ap (λ words. R ∷ words) (words_of-decimals (p ∷ q ∷ []) (fits.0, (fits.1, tt)))

words_of-moves : (moves : List SaidMove) → AllByRecursion MoveFits moves → flat_map words_of (flat_map move_words moves) ≡ flat_map step_said moves
words_of-moves [] fit = refl
words_of-moves (step ∷ moves) fit =
    let rest = flat_map move_words moves in
    flat_map-append words_of (move_words step) rest
    ∙ (ap (λ words. words ++ flat_map words_of rest) (words_of-move step fit.0) ∙ ap (λ words. step_said step ++ words) (words_of-moves moves fit.1))

moves_in-said : (moves : List SaidMove) → moves_in (flat_map step_said moves) ≡ moves
moves_in-said [] = refl
moves_in-said (Shift x y ∷ moves) = ap (λ rest. Shift x y ∷ rest) (moves_in-said moves)
moves_in-said (MirrorX ∷ moves) = ap (λ rest. MirrorX ∷ rest) (moves_in-said moves)
moves_in-said (MirrorY ∷ moves) = ap (λ rest. MirrorY ∷ rest) (moves_in-said moves)
moves_in-said (Toward p q ∷ moves) = ap (λ rest. Toward p q ∷ rest) (moves_in-said moves)

goes_on-said : (moves : List SaidMove) → goes_on (flat_map step_said moves) ≡ false
goes_on-said [] = refl
goes_on-said (Shift x y ∷ moves) = goes_on-said moves
goes_on-said (move ∷ moves) = goes_on-said moves

is_broken-said : (moves : List SaidMove) → list_any is_broken (flat_map step_said moves) ≡ false
is_broken-said [] = refl
is_broken-said (Shift x y ∷ moves) = is_broken-said moves
is_broken-said (move ∷ moves) = is_broken-said moves

said_by-call : (n : ℤ) (moves : List SaidMove) → said_by (C ∷ Number n ∷ flat_map step_said moves) ≡ Call n moves false
said_by-call n moves =
    let words = flat_map step_said moves in
    ap (λ broken. cond broken Other (Call n (moves_in words) (goes_on words))) (is_broken-said moves)
    ∙ (ap (λ steps. Call n steps (goes_on words)) (moves_in-said moves) ∙ ap (λ more. Call n moves more) (goes_on-said moves))

-- `C N STEPS`
pub says-call : (n : ℤ) (moves : List SaidMove) → FitsSigned w32 n → AllByRecursion MoveFits moves
    → says (line_of (codes "C" ∷ decimal n ∷ flat_map move_words moves)) ≡ Call n moves false
unfolding says
says-call n moves n_fits fit =
    let steps = flat_map words_of (flat_map move_words moves) in
    ap said_by (words_of-line_of (codes "C" ∷ decimal n ∷ flat_map move_words moves)
    ∙ (ap (λ words. words ++ (words_of (decimal n) ++ steps)) words_of-C
    ∙ (ap (λ words. C ∷ words ++ steps) (words_of-decimal n n_fits)
    ∙ ap (λ words. C ∷ Number n ∷ words) (words_of-moves moves fit))))
    ∙ said_by-call n moves

-- ---- a layer

shown_if : (upper digit minus mark : Bool) → (upper || digit) ≡ true → not (digit || minus || upper || mark) ≡ false
shown_if true true minus mark is = refl
shown_if true false true mark is = refl
shown_if true false false mark is = refl
shown_if false true minus mark is = refl
shown_if false false minus mark is = absurd (cc)

layer_byte-is_shown : (byte : ℕ) → is_layer_byte byte ≡ true → is_blank byte ≡ false
layer_byte-is_shown byte is = shown_if (is_ascii_uppercase byte) (is_ascii_digit byte) (byte == 45) (is_mark byte) is

from_first_word-shown : (name : List ℕ) → list_all is_layer_byte name ≡ true → from_first_word name ≡ name
from_first_word-shown [] all = refl
from_first_word-shown (byte ∷ name) all =
    ap (λ blank. cond blank (from_first_word name) (byte ∷ name))
    (layer_byte-is_shown byte (and_parts (is_layer_byte byte) (list_all is_layer_byte name) all).0)

layer_bytes-reverse : (name : List ℕ) → list_all is_layer_byte name ≡ true → list_all is_layer_byte (reverse name) ≡ true
layer_bytes-reverse [] all = refl
layer_bytes-reverse (byte ∷ name) all =
    let parts = and_parts (is_layer_byte byte) (list_all is_layer_byte name) all in
    ap (list_all is_layer_byte) (reverse-append (byte ∷ []) name)
    ∙ (list_all-append is_layer_byte (reverse name) (byte ∷ [])
    ∙ and_from (list_all is_layer_byte (reverse name)) (is_layer_byte byte && true)
    (layer_bytes-reverse name parts.1) (and_from (is_layer_byte byte) true parts.0 refl))

trimmed-name : (name : List ℕ) → list_all is_layer_byte name ≡ true → trimmed (32 ∷ name) ≡ name
trimmed-name name all =
    ap without_last_blanks (from_first_word-shown name all)
    ∙ (ap reverse (from_first_word-shown (reverse name) (layer_bytes-reverse name all)) ∙ reverse-reverse name)

-- `L NAME`
pub says-layer : (name : List ℕ) → is_layer_name name ≡ true → says (line_of (codes "L" ∷ name ∷ [])) ≡ Layer (Some name)
unfolding says
says-layer name is =
    ap layer_said (trimmed-name name (and_parts _ (list_all is_layer_byte name) is).1) ∙ ap (λ test. Layer (cond test (Some name) None)) is

or_true : (b : Bool) → (b || true) ≡ true
or_true true = refl
or_true false = refl

digits-layer_bytes : (digits : List ℕ) → all_ascii_digits digits ≡ true → list_all is_layer_byte digits ≡ true
digits-layer_bytes [] all = refl
digits-layer_bytes (byte ∷ digits) all =
    let parts = and_parts (is_ascii_digit byte) (all_ascii_digits digits) all in
    and_from (is_layer_byte byte) (list_all is_layer_byte digits)
    (ap (λ digit. is_ascii_uppercase byte || digit) parts.0 ∙ or_true (is_ascii_uppercase byte)) (digits-layer_bytes digits parts.1)

digits-decimal : (k : ℕ) → all_ascii_digits (decimal (pos k)) ≡ true
unfolding decimal
digits-decimal k = all_ascii_digits-natural_text k

few_digits : (k : ℕ) → k < 1000 → length (decimal (pos k)) ≤ 3
few_digits k few =
    omega (arith, ap length (decimal-std (pos k) (omega arith)), length-decimal-le 3 k (omega arith) (omega arith) (omega arith))

-- `P` and the digits of a number below 1000 are a layer's name
pub is_layer_name-part : (k : ℕ) → k < 1000 → is_layer_name (codes "P" ++ decimal (pos k)) ≡ true
is_layer_name-part k few =
    let digits = decimal (pos k) in
    let name = 80 ∷ digits in
    let short : length name < 5 = omega (arith, few_digits k few) in
    and_from (nat_lt 0 (length name) && nat_lt (length name) 5) (list_all is_layer_byte name)
    (and_from (nat_lt 0 (length name)) (nat_lt (length name) 5) (lt-ltb 0 (length name) (omega arith)) (lt-ltb (length name) 5 short))
    (digits-layer_bytes digits (digits-decimal k))

-- ---- unmarked commands

-- `9 NAME`, where the name is plain
pub unmarked-name : (name : List ℕ) → is_plain_name name ≡ true → is_unmarked_text (line_of (codes "9" ∷ name ∷ [])) ≡ true
unmarked-name name is = unmarked-kinds is_plain_byte refl refl refl name (and_parts _ (list_all is_plain_byte name) is).1

-- `L NAME`
pub unmarked-layer : (name : List ℕ) → is_layer_name name ≡ true → is_unmarked_text (line_of (codes "L" ∷ name ∷ [])) ≡ true
unmarked-layer name is = unmarked-kinds is_layer_byte refl refl refl name (and_parts _ (list_all is_layer_byte name) is).1

-- a word and numbers
pub unmarked-numbers : (word : List ℕ) (numbers : List ℤ) → is_unmarked_text word ≡ true → is_unmarked_text (line_of (word ∷ map decimal numbers)) ≡ true
unmarked-numbers word numbers unmarked = unmarked-line_of (word ∷ map decimal numbers) (unmarked, unmarked-decimals numbers)

unmarked-moves : (moves : List SaidMove) → AreUnmarked (flat_map move_words moves)
unmarked-moves [] = tt
unmarked-moves (Shift x y ∷ moves) = (refl, (unmarked-decimal x, (unmarked-decimal y, unmarked-moves moves)))
unmarked-moves (MirrorX ∷ moves) = (refl, (refl, unmarked-moves moves))
unmarked-moves (MirrorY ∷ moves) = (refl, (refl, unmarked-moves moves))
unmarked-moves (Toward p q ∷ moves) = (refl, (unmarked-decimal p, (unmarked-decimal q, unmarked-moves moves)))

-- a call with its steps
pub unmarked-call : (n : ℤ) (moves : List SaidMove) → is_unmarked_text (line_of (codes "C" ∷ decimal n ∷ flat_map move_words moves)) ≡ true
unmarked-call n moves = unmarked-line_of (codes "C" ∷ decimal n ∷ flat_map move_words moves) (refl, (unmarked-decimal n, unmarked-moves moves))
