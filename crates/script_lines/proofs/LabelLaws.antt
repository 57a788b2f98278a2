-- What the words of a label give, and the only word of a line that says how many.
use Rattle.script_lines.proofs.Common.{◌≡◌, ◌∙◌, sym, ap, ℕ, ℤ, pos, Bool, true, false, List, [], ◌∷◌, ◌++◌, Ok, Err, Option, Some, None, take, map}
use Rattle.script_lines.proofs.Common.{arith, refl, MatchOption, ok_or, ◌&&◌, list_all, common_steps, ints, words_of, is_label_text}
use Rattle.script_lines.proofs.Common.{without_outer_blanks, LAST_POSITION, LineFault, BadForm, NumberRange, ArgumentKind, Layer, Number, Position}
use Rattle.script_lines.proofs.Common.{Count, Text, Argument, Word, Value, is_number, number_in, is_between, behind, behind_word, label_given}
use Rattle.script_lines.proofs.Common.{label_kinds, begins_with_numbers, is_fitting}
use Rattle.geo_core.specs.declared.squares.Rect.{Rect}
use Rattle.script_lines.specs.declared.limits.TheConstants.{LEAST_NUMBER, GREATEST_NUMBER, MOST_GENERATED}
use Rattle.script_lines.specs.Arguments.{are_formed, are_in_range, arguments_of, read_words}
use Rattle.script_lines.specs.Arguments.{words_and_text}
use Rattle.script_lines.proofs.FrontLaws.{second, second-fails}
use Rattle.script_lines.proofs.ReadLaws.{judged, read-front, read-front-err, read-unformed, read-outside, read-ok}

-- numbers up to the last position, and those that say how many, are in the range of all numbers
position-fits : (z : ℤ) → is_between (pos 0) (pos LAST_POSITION) z ≡ true → is_between LEAST_NUMBER GREATEST_NUMBER z ≡ true
position-fits z e = grind (arith, ints, common_steps)

count-fits : (z : ℤ) → is_between (pos 1) MOST_GENERATED z ≡ true → is_between LEAST_NUMBER GREATEST_NUMBER z ≡ true
count-fits z e = grind (arith, ints, common_steps)

-- what follows the layer of a label
abbrev behind_layer : List ArgumentKind
behind_layer = Number ∷ Number ∷ Number ∷ Number ∷ Position ∷ Text ∷ []

formed-tail : (a b c d p t : Bool) → (a && (b && (c && (d && (p && true))))) ≡ true → t ≡ true → (a && (b && (c && (d && (p && (t && true)))))) ≡ true
formed-tail true true true true true t e f = ap (λ (x : Bool). x && true) f
formed-tail true true true true false t e f = cc
formed-tail true true true false p t e f = cc
formed-tail true true false d p t e f = cc
formed-tail true false c d p t e f = cc
formed-tail false b c d p t e f = cc

unformed-tail : (a b c d p t : Bool) → (a && (b && (c && (d && (p && true))))) ≡ false → (a && (b && (c && (d && (p && (t && true)))))) ≡ false
unformed-tail true true true true true t e = cc
unformed-tail true true true true false t e = refl
unformed-tail true true true false p t e = refl
unformed-tail true true false d p t e = refl
unformed-tail true false c d p t e = refl
unformed-tail false b c d p t e = refl

unformed-text : (a b c d p t : Bool) → t ≡ false → (a && (b && (c && (d && (p && (t && true)))))) ≡ false
unformed-text a b c d p t f =
    second-fails a (b && (c && (d && (p && (t && true))))) (second-fails b (c && (d && (p && (t && true))))
    (second-fails c (d && (p && (t && true))) (second-fails d (p && (t && true)) (second-fails p (t && true) (ap (λ (x : Bool). x && true) f)))))

outside-tail : (a b c d p position : Bool) → (position ≡ true → p ≡ true) → (a && (b && (c && (d && (p && true))))) ≡ false →
    (a && (b && (c && (d && (position && (true && true)))))) ≡ false
outside-tail true true true true true position fits e = cc
outside-tail true true true true false true fits e = let no : false ≡ true = fits refl in cc
outside-tail true true true true false false fits e = refl
outside-tail true true true false p position fits e = refl
outside-tail true true false d p position fits e = refl
outside-tail true false c d p position fits e = refl
outside-tail false b c d p position fits e = refl

outside-position : (a b c d position : Bool) → position ≡ false → (a && (b && (c && (d && (position && (true && true)))))) ≡ false
outside-position a b c d position f =
    second-fails a (b && (c && (d && (position && (true && true))))) (second-fails b (c && (d && (position && (true && true))))
    (second-fails c (d && (position && (true && true))) (second-fails d (position && (true && true)) (ap (λ (x : Bool). x && (true && true)) f))))

inside-tail : (a b c d p position : Bool) → (a && (b && (c && (d && (p && true))))) ≡ true → position ≡ true →
    (a && (b && (c && (d && (position && (true && true)))))) ≡ true
inside-tail true true true true p position e f = ap (λ (x : Bool). x && (true && true)) f
inside-tail true true true false p position e f = cc
inside-tail true true false d p position e f = cc
inside-tail true false c d p position e f = cc
inside-tail false b c d p position e f = cc

short : (a : Bool) → (a && false) ≡ false
short a = second-fails a false refl

-- a word of the five is no number, or there are fewer
pub tail-bad : (words : List (List ℕ)) (text : List ℕ) → begins_with_numbers 5 words ≡ false → are_formed behind_layer (take 5 words ++ text ∷ []) ≡ false
tail-bad [] text e = short (is_number text)
tail-bad (a ∷ []) text e = second-fails (is_number a) (is_number text && false) (short (is_number text))
tail-bad (a ∷ b ∷ []) text e =
    second-fails (is_number a) (is_number b && (is_number text && false)) (second-fails (is_number b) (is_number text && false) (short (is_number text)))
tail-bad (a ∷ b ∷ c ∷ []) text e =
    second-fails (is_number a) (is_number b && (is_number c && (is_number text && false)))
    (second-fails (is_number b) (is_number c && (is_number text && false)) (second-fails (is_number c) (is_number text && false) (short (is_number text))))
tail-bad (a ∷ b ∷ c ∷ d ∷ []) text e =
    second-fails (is_number a) (is_number b && (is_number c && (is_number d && (is_number text && false))))
    (second-fails (is_number b) (is_number c && (is_number d && (is_number text && false)))
    (second-fails (is_number c) (is_number d && (is_number text && false)) (second-fails (is_number d) (is_number text && false) (short (is_number text)))))
tail-bad (a ∷ b ∷ c ∷ d ∷ p ∷ words) text e =
    unformed-tail (is_number a) (is_number b) (is_number c) (is_number d) (is_number p) (is_label_text text) e

-- There are five numbers: what of a list that has them.
pub record FiveNumbers (words : List (List ℕ)) : Type 0 where
  pub a : List ℕ
  pub b : List ℕ
  pub c : List ℕ
  pub d : List ℕ
  pub p : List ℕ
  pub first : take 5 words ≡ a ∷ b ∷ c ∷ d ∷ p ∷ []
  pub numbers : (is_number a && (is_number b && (is_number c && (is_number d && (is_number p && true))))) ≡ true

five : (words : List (List ℕ)) → begins_with_numbers 5 words ≡ true → FiveNumbers words
five [] e = absurd (cc)
five (a ∷ []) e = absurd (let no = second (is_number a) false e in cc)
five (a ∷ b ∷ []) e = absurd (let no = second (is_number b) false (second (is_number a) (is_number b && false) e) in cc)
five (a ∷ b ∷ c ∷ []) e =
    absurd (let no = second (is_number c) false (second (is_number b) (is_number c && false)
    (second (is_number a) (is_number b && (is_number c && false)) e)) in cc)
five (a ∷ b ∷ c ∷ d ∷ []) e =
    absurd (let no = second (is_number d) false (second (is_number c) (is_number d && false) (second (is_number b) (is_number c && (is_number d && false))
    (second (is_number a) (is_number b && (is_number c && (is_number d && false))) e))) in cc)
five (a ∷ b ∷ c ∷ d ∷ p ∷ words) e = record { a = a; b = b; c = c; d = d; p = p; first = refl; numbers = e }

-- the text behind five numbers is none of a label
pub tail-text-bad : (words : List (List ℕ)) (text : List ℕ) → begins_with_numbers 5 words ≡ true → is_label_text text ≡ false →
    are_formed behind_layer (take 5 words ++ text ∷ []) ≡ false
tail-text-bad words text e f =
    let w = five words e in
    ap (λ (front : List (List ℕ)). are_formed behind_layer (front ++ text ∷ [])) w.first
    ∙ unformed-text (is_number w.a) (is_number w.b) (is_number w.c) (is_number w.d) (is_number w.p) (is_label_text text) f

tail-formed : (words : List (List ℕ)) (text : List ℕ) → begins_with_numbers 5 words ≡ true → is_label_text text ≡ true →
    are_formed behind_layer (take 5 words ++ text ∷ []) ≡ true
tail-formed words text e f =
    let w = five words e in
    ap (λ (front : List (List ℕ)). are_formed behind_layer (front ++ text ∷ [])) w.first
    ∙ formed-tail (is_number w.a) (is_number w.b) (is_number w.c) (is_number w.d) (is_number w.p) (is_label_text text) w.numbers f

-- one of the five numbers is out of the range of all numbers
pub tail-outside : (words : List (List ℕ)) (text : List ℕ) → begins_with_numbers 5 words ≡ true → is_label_text text ≡ true →
    list_all is_fitting (take 5 words) ≡ false → read_words behind_layer (take 5 words ++ text ∷ []) ≡ Err NumberRange
tail-outside words text e f out =
    let w = five words e in
    let all : list_all is_fitting (w.a ∷ w.b ∷ w.c ∷ w.d ∷ w.p ∷ []) ≡ false = sym (ap (list_all is_fitting) w.first) ∙ out in
    read-outside behind_layer (take 5 words ++ text ∷ []) (tail-formed words text e f)
    (ap (λ (front : List (List ℕ)). are_in_range behind_layer (front ++ text ∷ [])) w.first
    ∙ outside-tail (is_fitting w.a) (is_fitting w.b) (is_fitting w.c) (is_fitting w.d) (is_fitting w.p)
    (is_between (pos 0) (pos LAST_POSITION) (number_in w.p)) (position-fits (number_in w.p)) all)

-- the numbers of the five words
fifth : (words : List (List ℕ)) (w : FiveNumbers words) (xlo ylo xhi yhi position : ℤ) →
    (xlo ∷ ylo ∷ xhi ∷ yhi ∷ position ∷ []) ≡ map number_in (take 5 words) → number_in w.p ≡ position
fifth words w xlo ylo xhi yhi position same =
    let all : (xlo ∷ ylo ∷ xhi ∷ yhi ∷ position ∷ []) ≡ map number_in (w.a ∷ w.b ∷ w.c ∷ w.d ∷ w.p ∷ []) = same ∙ ap (map number_in) w.first in cc

-- the fifth is that of no position
pub tail-no-position : (words : List (List ℕ)) (text : List ℕ) (xlo ylo xhi yhi position : ℤ) → begins_with_numbers 5 words ≡ true → is_label_text text ≡ true →
    (xlo ∷ ylo ∷ xhi ∷ yhi ∷ position ∷ []) ≡ map number_in (take 5 words) → is_between (pos 0) (pos LAST_POSITION) position ≡ false →
    read_words behind_layer (take 5 words ++ text ∷ []) ≡ Err NumberRange
tail-no-position words text xlo ylo xhi yhi position e f same out =
    let w = five words e in
    read-outside behind_layer (take 5 words ++ text ∷ []) (tail-formed words text e f)
    (ap (λ (front : List (List ℕ)). are_in_range behind_layer (front ++ text ∷ [])) w.first
    ∙ outside-position (is_fitting w.a) (is_fitting w.b) (is_fitting w.c) (is_fitting w.d) (is_between (pos 0) (pos LAST_POSITION) (number_in w.p))
    (ap (is_between (pos 0) (pos LAST_POSITION)) (fifth words w xlo ylo xhi yhi position same) ∙ out))

-- all is as it is to be
pub tail-read : (words : List (List ℕ)) (text : List ℕ) (xlo ylo xhi yhi position : ℤ) → begins_with_numbers 5 words ≡ true → is_label_text text ≡ true →
    list_all is_fitting (take 5 words) ≡ true → (xlo ∷ ylo ∷ xhi ∷ yhi ∷ position ∷ []) ≡ map number_in (take 5 words) →
    is_between (pos 0) (pos LAST_POSITION) position ≡ true →
    read_words behind_layer (take 5 words ++ text ∷ []) ≡ Ok (Value xlo ∷ Value ylo ∷ Value xhi ∷ Value yhi ∷ Value position ∷ Word text ∷ [])
tail-read words text xlo ylo xhi yhi position e f fit same inside =
    let w = five words e in
    let all : list_all is_fitting (w.a ∷ w.b ∷ w.c ∷ w.d ∷ w.p ∷ []) ≡ true = sym (ap (list_all is_fitting) w.first) ∙ fit in
    let values : map number_in (w.a ∷ w.b ∷ w.c ∷ w.d ∷ w.p ∷ []) ≡ (xlo ∷ ylo ∷ xhi ∷ yhi ∷ position ∷ []) = sym (ap (map number_in) w.first) ∙ sym same in
    read-ok behind_layer (take 5 words ++ text ∷ []) (tail-formed words text e f)
    (ap (λ (front : List (List ℕ)). are_in_range behind_layer (front ++ text ∷ [])) w.first
    ∙ inside-tail (is_fitting w.a) (is_fitting w.b) (is_fitting w.c) (is_fitting w.d) (is_fitting w.p)
    (is_between (pos 0) (pos LAST_POSITION) (number_in w.p)) all
    (ap (is_between (pos 0) (pos LAST_POSITION)) (fifth words w xlo ylo xhi yhi position same) ∙ inside))
    ∙ ap (λ (front : List (List ℕ)). Ok (arguments_of behind_layer (front ++ text ∷ []))) w.first
    ∙ ap (λ (numbers : List ℤ). Ok (map Value numbers ++ Word text ∷ [])) values

-- the words of a line that begins with a layer, as those of a label
pub label-words : (line layer rest : List ℕ) → words_of line ≡ layer ∷ words_of rest → rest ≡ behind_word line →
    words_and_text 6 line ≡ layer ∷ (take 5 (words_of rest) ++ without_outer_blanks (behind 5 rest) ∷ [])
label-words line layer rest words after =
    ap (λ (all : List (List ℕ)). take 6 all ++ without_outer_blanks (behind 5 (behind_word line)) ∷ []) words
    ∙ ap (λ (left : List ℕ). layer ∷ (take 5 (words_of rest) ++ without_outer_blanks (behind 5 left) ∷ [])) (sym after)

narrower-err : (formed fit narrow : Bool) (given : List Argument) (fault : LineFault) → (narrow ≡ true → fit ≡ true) →
    judged formed (fit && true) given ≡ Err fault →
    judged formed (narrow && true) given ≡ Err fault
narrower-err false fit narrow given fault fits e = e
narrower-err true true narrow given fault fits e = cc
narrower-err true false false given fault fits e = e
narrower-err true false true given fault fits e = let no = fits refl in cc

narrower-ok : (formed fit narrow : Bool) (given all : List Argument) → judged formed (fit && true) given ≡ Ok all → narrow ≡ true →
    judged formed (narrow && true) given ≡ Ok all
narrower-ok false fit narrow given all e f = cc
narrower-ok true true narrow given all e f = ap (λ (x : Bool). judged true (x && true) given) f ∙ e
narrower-ok true false narrow given all e f = cc

narrower-outside : (formed fit narrow : Bool) (given all : List Argument) → judged formed (fit && true) given ≡ Ok all → narrow ≡ false →
    judged formed (narrow && true) given ≡ Err NumberRange
narrower-outside false fit narrow given all e f = cc
narrower-outside true fit narrow given all e f = ap (λ (x : Bool). judged true (x && true) given) f

judged-given : (formed fit : Bool) (given all : List Argument) → judged formed fit given ≡ Ok all → given ≡ all
judged-given false fit given all e = cc
judged-given true true given all e = cc
judged-given true false given all e = cc

-- one number that says how many: the fault of a number is its fault
pub count-err : (words : List (List ℕ)) (fault : LineFault) → read_words (Number ∷ []) words ≡ Err fault → read_words (Count ∷ []) words ≡ Err fault
unfolding read_words
count-err [] fault e = e
count-err (word ∷ words) fault e =
    narrower-err (is_number word && are_formed [] words) (is_fitting word) (is_between (pos 1) MOST_GENERATED (number_in word))
    (Value (number_in word) ∷ []) fault (count-fits (number_in word)) e

the-number : (word : List ℕ) (words : List (List ℕ)) (count : ℤ) → read_words (Number ∷ []) (word ∷ words) ≡ Ok (Value count ∷ []) → number_in word ≡ count
unfolding read_words
the-number word words count e =
    let same = judged-given (is_number word && are_formed [] words) (is_fitting word && true) (Value (number_in word) ∷ []) (Value count ∷ []) e in cc

pub count-read : (words : List (List ℕ)) (count : ℤ) → read_words (Number ∷ []) words ≡ Ok (Value count ∷ []) → is_between (pos 1) MOST_GENERATED count ≡ true →
    read_words (Count ∷ []) words ≡ Ok (Value count ∷ [])
unfolding read_words
count-read [] count e inside = cc
count-read (word ∷ words) count e inside =
    narrower-ok (is_number word && are_formed [] words) (is_fitting word) (is_between (pos 1) MOST_GENERATED (number_in word))
    (Value (number_in word) ∷ []) (Value count ∷ []) e (ap (is_between (pos 1) MOST_GENERATED) (the-number word words count e) ∙ inside)

pub count-outside : (words : List (List ℕ)) (count : ℤ) → read_words (Number ∷ []) words ≡ Ok (Value count ∷ []) →
    is_between (pos 1) MOST_GENERATED count ≡ false →
    read_words (Count ∷ []) words ≡ Err NumberRange
unfolding read_words
count-outside [] count e out = cc
count-outside (word ∷ words) count e out =
    narrower-outside (is_number word && are_formed [] words) (is_fitting word) (is_between (pos 1) MOST_GENERATED (number_in word))
    (Value (number_in word) ∷ []) (Value count ∷ []) e (ap (is_between (pos 1) MOST_GENERATED) (the-number word words count e) ∙ out)

-- The five numbers as they are found: `None` is for those of which one is out of the range of all numbers.
pub record AreFound (words : List (List ℕ)) (found : Option (List ℤ)) : Type 0 where
  pub begun : begins_with_numbers 5 words ≡ true
  pub values : MatchOption found (list_all is_fitting (take 5 words) ≡ false) (λ values. values ≡ map number_in (take 5 words))
  pub fit : MatchOption found (list_all is_fitting (take 5 words) ≡ false) (λ values. list_all is_fitting (take 5 words) ≡ true)

none-found : (words : List (List ℕ)) (found : Option (List ℤ)) (fault : LineFault) →
    MatchOption found (list_all is_fitting (take 5 words) ≡ false) (λ values. values ≡ map number_in (take 5 words)) →
    ok_or found NumberRange ≡ Err fault → (list_all is_fitting (take 5 words) ≡ false) × (NumberRange ≡ fault)
none-found words None fault values e = (values, (cc))
none-found words (Some five) fault values e = cc

some-found : (words : List (List ℕ)) (found : Option (List ℤ)) (five : List ℤ) →
    MatchOption found (list_all is_fitting (take 5 words) ≡ false) (λ values. values ≡ map number_in (take 5 words)) →
    MatchOption found (list_all is_fitting (take 5 words) ≡ false) (λ values. list_all is_fitting (take 5 words) ≡ true) →
    ok_or found NumberRange ≡ Ok five → (list_all is_fitting (take 5 words) ≡ true) × (five ≡ map number_in (take 5 words))
some-found words None five values fit e = cc
some-found words (Some found) five values fit e = (fit, (let same : found ≡ five = cc in sym same ∙ values))

-- a number of a label is out of the range of all numbers
pub label-outside : (line layer rest : List ℕ) (found : Option (List ℤ)) (fault : LineFault) → words_of line ≡ layer ∷ words_of rest →
    rest ≡ behind_word line → AreFound (words_of rest) found → is_label_text (without_outer_blanks (behind 5 rest)) ≡ true →
    ok_or found NumberRange ≡ Err fault → read_words label_kinds (words_and_text 6 line) ≡ Err fault
label-outside line layer rest found fault split after numbers text e =
    let none = none-found (words_of rest) found fault numbers.values e in
    let tail = take 5 (words_of rest) ++ without_outer_blanks (behind 5 rest) ∷ [] in
    read-front-err Layer behind_layer (words_and_text 6 line) layer tail fault
    (label-words line layer rest split after) refl refl
    (tail-outside (words_of rest) (without_outer_blanks (behind 5 rest)) numbers.begun text none.0 ∙ ap (λ (f : LineFault). Err f) none.1)

-- the layer of a label is missing
pub label-none : (line : List ℕ) → words_of line ≡ [] → read_words label_kinds (words_and_text 6 line) ≡ Err BadForm
label-none line none =
    read-unformed label_kinds (words_and_text 6 line)
    (ap (λ (all : List (List ℕ)). are_formed label_kinds (take 6 all ++ without_outer_blanks (behind 6 line) ∷ [])) none)

-- one of the five words behind the layer is missing, or is no number
pub label-bad : (line layer rest : List ℕ) → words_of line ≡ layer ∷ words_of rest → rest ≡ behind_word line →
    begins_with_numbers 5 (words_of rest) ≡ false → read_words label_kinds (words_and_text 6 line) ≡ Err BadForm
label-bad line layer rest split after e =
    let tail = take 5 (words_of rest) ++ without_outer_blanks (behind 5 rest) ∷ [] in
    read-front-err Layer behind_layer (words_and_text 6 line) layer tail BadForm
    (label-words line layer rest split after) refl refl
    (read-unformed behind_layer tail (tail-bad (words_of rest) (without_outer_blanks (behind 5 rest)) e))

-- the text of a label is not of its form
pub label-text-bad : (line layer rest : List ℕ) → words_of line ≡ layer ∷ words_of rest → rest ≡ behind_word line →
    begins_with_numbers 5 (words_of rest) ≡ true → is_label_text (without_outer_blanks (behind 5 rest)) ≡ false →
    read_words label_kinds (words_and_text 6 line) ≡ Err BadForm
label-text-bad line layer rest split after begun e =
    let tail = take 5 (words_of rest) ++ without_outer_blanks (behind 5 rest) ∷ [] in
    read-front-err Layer behind_layer (words_and_text 6 line) layer tail BadForm
    (label-words line layer rest split after) refl refl
    (read-unformed behind_layer tail (tail-text-bad (words_of rest) (without_outer_blanks (behind 5 rest)) begun e))

-- a label is at no position
pub label-no-position : (line layer rest : List ℕ) (found : Option (List ℤ)) (five : List ℤ) (area : Rect) (position : ℤ) →
    words_of line ≡ layer ∷ words_of rest → rest ≡ behind_word line → AreFound (words_of rest) found →
    is_label_text (without_outer_blanks (behind 5 rest)) ≡ true → ok_or found NumberRange ≡ Ok five →
    five ≡ area.xlo ∷ area.ylo ∷ area.xhi ∷ area.yhi ∷ position ∷ [] → is_between (pos 0) (pos LAST_POSITION) position ≡ false →
    read_words label_kinds (words_and_text 6 line) ≡ Err NumberRange
label-no-position line layer rest found five area position split after numbers text e parts out =
    let some = some-found (words_of rest) found five numbers.values numbers.fit e in
    let tail = take 5 (words_of rest) ++ without_outer_blanks (behind 5 rest) ∷ [] in
    read-front-err Layer behind_layer (words_and_text 6 line) layer tail NumberRange
    (label-words line layer rest split after) refl refl
    (tail-no-position (words_of rest) (without_outer_blanks (behind 5 rest)) area.xlo area.ylo area.xhi area.yhi position
    numbers.begun text (sym parts ∙ some.1) out)

-- all of a label is as it is to be
pub label-read : (line layer rest : List ℕ) (found : Option (List ℤ)) (five : List ℤ) (area : Rect) (position : ℤ) →
    words_of line ≡ layer ∷ words_of rest → rest ≡ behind_word line → AreFound (words_of rest) found →
    is_label_text (without_outer_blanks (behind 5 rest)) ≡ true → ok_or found NumberRange ≡ Ok five →
    five ≡ area.xlo ∷ area.ylo ∷ area.xhi ∷ area.yhi ∷ position ∷ [] → is_between (pos 0) (pos LAST_POSITION) position ≡ true →
    read_words label_kinds (words_and_text 6 line) ≡ Ok (label_given layer area position (without_outer_blanks (behind 5 rest)))
label-read line layer rest found five area position split after numbers text e parts inside =
    let some = some-found (words_of rest) found five numbers.values numbers.fit e in
    let tail = take 5 (words_of rest) ++ without_outer_blanks (behind 5 rest) ∷ [] in
    read-front Layer behind_layer (words_and_text 6 line) layer tail
    (Value area.xlo ∷ Value area.ylo ∷ Value area.xhi ∷ Value area.yhi ∷ Value position ∷ Word (without_outer_blanks (behind 5 rest)) ∷ [])
    (label-words line layer rest split after) refl refl
    (tail-read (words_of rest) (without_outer_blanks (behind 5 rest)) area.xlo area.ylo area.xhi area.yhi position
    numbers.begun text some.0 (sym parts ∙ some.1) inside)
