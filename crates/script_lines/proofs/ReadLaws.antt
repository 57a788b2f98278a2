-- What the words of a line give, one word at a time.
use Rattle.script_lines.proofs.Common.{◌≡◌, ◌≢◌, ◌∙◌, sym, ap, ℕ, ℤ, zero, suc, Bool, true, false, List, [], ◌∷◌, Result, Ok, Err, Option, Some}
use Rattle.script_lines.proofs.Common.{None, take, drop, map, replicate, refl, MatchOption, ok_or, ◌&&◌, if◌then◌else◌, and_from, list_all}
use Rattle.script_lines.proofs.Common.{LineFault, BadForm, NumberRange, ArgumentKind, Number, Argument, Value, is_formed, is_number, number_in}
use Rattle.script_lines.proofs.Common.{begins_with, begins_with_numbers, is_fitting}
use Rattle.std.specs.Prelude.{IfOk, IfErr}
use Rattle.script_lines.specs.Arguments.{is_in_range, argument_of, are_formed, are_in_range, arguments_of, read_words}
use Rattle.script_lines.proofs.FrontLaws.{first, second, second-fails}

abbrev pub judged : Bool → Bool → List Argument → Result (List Argument) LineFault
judged formed fit given = if formed then (if fit then Ok given else Err NumberRange) else Err BadForm

judged-by : (a b : Bool) (given : List Argument) (formed fit : Bool) → a ≡ formed → b ≡ fit → judged a b given ≡ judged formed fit given
judged-by a b given formed fit p q = cc

-- a word of them is not of its form
pub read-unformed : (kinds : List ArgumentKind) (words : List (List ℕ)) → are_formed kinds words ≡ false → read_words kinds words ≡ Err BadForm
unfolding read_words
read-unformed kinds words e = judged-by (are_formed kinds words) (are_in_range kinds words) (arguments_of kinds words) false (are_in_range kinds words) e refl

-- a number of them is out of its range
pub read-outside : (kinds : List ArgumentKind) (words : List (List ℕ)) → are_formed kinds words ≡ true → are_in_range kinds words ≡ false →
    read_words kinds words ≡ Err NumberRange
unfolding read_words
read-outside kinds words e f = judged-by (are_formed kinds words) (are_in_range kinds words) (arguments_of kinds words) true false e f

-- all are as they are to be
pub read-ok : (kinds : List ArgumentKind) (words : List (List ℕ)) → are_formed kinds words ≡ true → are_in_range kinds words ≡ true →
    read_words kinds words ≡ Ok (arguments_of kinds words)
unfolding read_words
read-ok kinds words e f = judged-by (are_formed kinds words) (are_in_range kinds words) (arguments_of kinds words) true true e f

judged-front : (a b : Bool) (given : List Argument) (argument : Argument) (all : List Argument) → judged a b given ≡ Ok all →
    judged a b (argument ∷ given) ≡ Ok (argument ∷ all)
judged-front true true given argument all e = let same : given ≡ all = cc in ap (λ (l : List Argument). Ok (argument ∷ l)) same
judged-front true false given argument all e = cc
judged-front false b given argument all e = cc

judged-front-err : (a b : Bool) (given : List Argument) (argument : Argument) (fault : LineFault) → judged a b given ≡ Err fault →
    judged a b (argument ∷ given) ≡ Err fault
judged-front-err true true given argument fault e = cc
judged-front-err true false given argument fault e = cc
judged-front-err false b given argument fault e = cc

ands : (a b : Bool) → a ≡ true → (a && b) ≡ b
ands a b p = cc

front : (kind : ArgumentKind) (kinds : List ArgumentKind) (word : List ℕ) (words : List (List ℕ)) → is_formed kind word ≡ true → is_in_range kind word ≡ true →
    read_words (kind ∷ kinds) (word ∷ words) ≡ judged (are_formed kinds words) (are_in_range kinds words) (argument_of kind word ∷ arguments_of kinds words)
unfolding read_words
front kind kinds word words formed fit =
    judged-by (is_formed kind word && are_formed kinds words) (is_in_range kind word && are_in_range kinds words)
    (argument_of kind word ∷ arguments_of kinds words) (are_formed kinds words) (are_in_range kinds words)
    (ands (is_formed kind word) (are_formed kinds words) formed) (ands (is_in_range kind word) (are_in_range kinds words) fit)

front-ok : (kind : ArgumentKind) (kinds : List ArgumentKind) (word : List ℕ) (words : List (List ℕ)) (given : List Argument) →
    is_formed kind word ≡ true → is_in_range kind word ≡ true → read_words kinds words ≡ Ok given →
    read_words (kind ∷ kinds) (word ∷ words) ≡ Ok (argument_of kind word ∷ given)
unfolding read_words
front-ok kind kinds word words given formed fit e =
    front kind kinds word words formed fit
    ∙ judged-front (are_formed kinds words) (are_in_range kinds words) (arguments_of kinds words) (argument_of kind word) given e

front-err : (kind : ArgumentKind) (kinds : List ArgumentKind) (word : List ℕ) (words : List (List ℕ)) (fault : LineFault) →
    is_formed kind word ≡ true → is_in_range kind word ≡ true → read_words kinds words ≡ Err fault → read_words (kind ∷ kinds) (word ∷ words) ≡ Err fault
unfolding read_words
front-err kind kinds word words fault formed fit e =
    front kind kinds word words formed fit
    ∙ judged-front-err (are_formed kinds words) (are_in_range kinds words) (arguments_of kinds words) (argument_of kind word) fault e

-- The first word is as it is to be: the others decide.
pub read-front : (kind : ArgumentKind) (kinds : List ArgumentKind) (all : List (List ℕ)) (word : List ℕ) (words : List (List ℕ)) (given : List Argument) →
    all ≡ word ∷ words → is_formed kind word ≡ true → is_in_range kind word ≡ true → read_words kinds words ≡ Ok given →
    read_words (kind ∷ kinds) all ≡ Ok (argument_of kind word ∷ given)
read-front kind kinds all word words given split formed fit e = ap (read_words (kind ∷ kinds)) split ∙ front-ok kind kinds word words given formed fit e

pub read-front-err : (kind : ArgumentKind) (kinds : List ArgumentKind) (all : List (List ℕ)) (word : List ℕ) (words : List (List ℕ)) (fault : LineFault) →
    all ≡ word ∷ words → is_formed kind word ≡ true → is_in_range kind word ≡ true → read_words kinds words ≡ Err fault →
    read_words (kind ∷ kinds) all ≡ Err fault
read-front-err kind kinds all word words fault split formed fit e = ap (read_words (kind ∷ kinds)) split ∙ front-err kind kinds word words fault formed fit e

fails : (a b : Bool) → a ≡ false → (a && b) ≡ false
fails a b p = cc

unformed-front : (kind : ArgumentKind) (kinds : List ArgumentKind) (words : List (List ℕ)) → begins_with kind words ≡ false →
    are_formed (kind ∷ kinds) words ≡ false
unformed-front kind kinds [] e = refl
unformed-front kind kinds (word ∷ words) e = fails (is_formed kind word) (are_formed kinds words) e

-- There is no first word, or it is not as it is to be.
pub read-front-bad : (kind : ArgumentKind) (kinds : List ArgumentKind) (words : List (List ℕ)) → begins_with kind words ≡ false →
    read_words (kind ∷ kinds) words ≡ Err BadForm
read-front-bad kind kinds words e = read-unformed (kind ∷ kinds) words (unformed-front kind kinds words e)

-- no word is asked for, and there is none
pub read-none : (words : List (List ℕ)) → words ≡ [] → read_words [] words ≡ Ok []
read-none words e = ap (read_words []) e ∙ read-ok [] [] refl refl

unformed-rest : (words : List (List ℕ)) → words ≢ [] → are_formed [] words ≡ false
unformed-rest [] some = absurd (some refl)
unformed-rest (word ∷ words) some = refl

-- no word is asked for, and there is one
pub read-rest : (words : List (List ℕ)) → words ≢ [] → read_words [] words ≡ Err BadForm
read-rest words some = read-unformed [] words (unformed-rest words some)

formed-numbers : (n : ℕ) (words : List (List ℕ)) → begins_with_numbers n words ≡ true → drop n words ≡ [] → are_formed (replicate n Number) words ≡ true
formed-numbers zero [] begun none = refl
formed-numbers zero (word ∷ words) begun none = cc
formed-numbers (suc n) [] begun none = cc
formed-numbers (suc n) (word ∷ words) begun none =
    and_from (is_number word) (are_formed (replicate n Number) words) (first (is_number word) (begins_with_numbers n words) begun)
    (formed-numbers n words (second (is_number word) (begins_with_numbers n words) begun) none)

range-numbers : (n : ℕ) (words : List (List ℕ)) → are_in_range (replicate n Number) words ≡ list_all is_fitting (take n words)
range-numbers zero words = refl
range-numbers (suc n) [] = refl
range-numbers (suc n) (word ∷ words) = ap (λ (b : Bool). is_fitting word && b) (range-numbers n words)

given-numbers : (n : ℕ) (words : List (List ℕ)) → arguments_of (replicate n Number) words ≡ map Value (map number_in (take n words))
given-numbers zero words = refl
given-numbers (suc n) [] = refl
given-numbers (suc n) (word ∷ words) = ap (λ (l : List Argument). Value (number_in word) ∷ l) (given-numbers n words)

either-fails : (a b c : Bool) → (b ≡ false → c ≡ false) → (a && b) ≡ false → (a && c) ≡ false
either-fails true b c known e = known e
either-fails false b c known e = refl

unformed-numbers : (n : ℕ) (words : List (List ℕ)) → begins_with_numbers n words ≡ false → are_formed (replicate n Number) words ≡ false
unformed-numbers zero words e = cc
unformed-numbers (suc n) [] e = refl
unformed-numbers (suc n) (word ∷ words) e =
    either-fails (is_number word) (begins_with_numbers n words) (are_formed (replicate n Number) words) (unformed-numbers n words) e

long-numbers : (n : ℕ) (words : List (List ℕ)) → drop n words ≢ [] → are_formed (replicate n Number) words ≡ false
long-numbers zero [] some = absurd (some refl)
long-numbers zero (word ∷ words) some = refl
long-numbers (suc n) [] some = absurd (some refl)
long-numbers (suc n) (word ∷ words) some = second-fails (is_number word) (are_formed (replicate n Number) words) (long-numbers n words some)

-- the words are numbers, so many
pub read-numbers : (n : ℕ) (words : List (List ℕ)) → begins_with_numbers n words ≡ true → drop n words ≡ [] → list_all is_fitting (take n words) ≡ true →
    read_words (replicate n Number) words ≡ Ok (map Value (map number_in (take n words)))
read-numbers n words begun none fit =
    read-ok (replicate n Number) words (formed-numbers n words begun none) (range-numbers n words ∙ fit)
    ∙ ap (λ (l : List Argument). Ok l) (given-numbers n words)

pub read-numbers-outside : (n : ℕ) (words : List (List ℕ)) → begins_with_numbers n words ≡ true → drop n words ≡ [] →
    list_all is_fitting (take n words) ≡ false → read_words (replicate n Number) words ≡ Err NumberRange
read-numbers-outside n words begun none fit =
    read-outside (replicate n Number) words (formed-numbers n words begun none) (range-numbers n words ∙ fit)

pub read-numbers-bad : (n : ℕ) (words : List (List ℕ)) → begins_with_numbers n words ≡ false → read_words (replicate n Number) words ≡ Err BadForm
read-numbers-bad n words e = read-unformed (replicate n Number) words (unformed-numbers n words e)

pub read-numbers-long : (n : ℕ) (words : List (List ℕ)) → drop n words ≢ [] → read_words (replicate n Number) words ≡ Err BadForm
read-numbers-long n words some = read-unformed (replicate n Number) words (long-numbers n words some)

-- what these numbers give, none of them being a fault
abbrev pub given_by : Option (List ℤ) → Result (List Argument) LineFault
given_by None = Err NumberRange
given_by (Some values) = Ok (map Value values)

pub read-numbers-found : (n : ℕ) (words : List (List ℕ)) (found : Option (List ℤ)) → begins_with_numbers n words ≡ true → drop n words ≡ [] →
    MatchOption found (list_all is_fitting (take n words) ≡ false) (λ values. values ≡ map number_in (take n words)) →
    MatchOption found (list_all is_fitting (take n words) ≡ false) (λ values. list_all is_fitting (take n words) ≡ true) →
    read_words (replicate n Number) words ≡ given_by found
read-numbers-found n words None begun none values fit = read-numbers-outside n words begun none fit
read-numbers-found n words (Some values) begun none same fit =
    read-numbers n words begun none fit ∙ ap (λ (l : List ℤ). Ok (map Value l)) (sym same)

pub if-ok : (r : Result (List Argument) LineFault) (found : Option (List ℤ)) → r ≡ given_by found →
    IfOk (ok_or found NumberRange) (λ values. r ≡ Ok (map Value values))
if-ok r None e = tt
if-ok r (Some values) e = e

pub if-err : (r : Result (List Argument) LineFault) (found : Option (List ℤ)) → r ≡ given_by found → IfErr (ok_or found NumberRange) (λ fault. r ≡ Err fault)
if-err r None e = e
if-err r (Some values) e = tt
