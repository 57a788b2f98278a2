-- Words as they are written are read as what they were written from.
use Rattle.ext_reading.proofs.Common.{◌≡◌, ◌≤◌, ◌+◌, ◌-◌, ◌==◌, ◌&&◌, ℕ, ℤ, Bool, true, false, cond, Option, List, [], ◌∷◌, ◌++◌, length, map, take}
use Rattle.ext_reading.proofs.Common.{drop, Ok, Err, FitsSigned, refl, sym, ap, ◌∙◌, subst, arith, inl, inr, length-append, append_assoc, append-nil}
use Rattle.ext_reading.proofs.Common.{Some, codes, nat_le, slice_index, w32, unsigned_abs, AllByRecursion, list_all, flat_map, and_parts, lt-ltb}
use Rattle.ext_reading.proofs.Common.{nat_tests, ints, In-push_cases, list_all-In, All-from_In, decimal, is_plain_name, is_separator, IsWord}
use Rattle.ext_reading.proofs.Common.{IsWord-decimal, IsWord-test, and_then, MEASURE_EDGE, TermRec, is_word_byte, is_word, is_node_name, IsMeasure}
use Rattle.ext_reading.proofs.Common.{quoted, measure_words, term_words, BadLine, Range, GREATEST_CLASS_VALUE, SideLine, is_short, unquoted}
use Rattle.ext_reading.proofs.Common.{if_formed, node_name_in, numeral_in, numerals_from, side_in, sides_from, short_in, measure_in, pair_in}
use Rattle.ext_reading.proofs.Common.{measures_from, class_value_in, class_values_from, term_in, terms_from}
use Rattle.std.specs.Prelude.{pos}
use Rattle.std.specs.Int.{w128}
use Rattle.std.proofs.Math.Seq.{take-append_seam, get_or-append_seam}
use Rattle.text_scan.specs.PlainNames.{is_plain_byte}
use Rattle.text_scan.specs.declared.plain_name.TheConstants.{LONGEST_NAME}
use Rattle.text_scan.proofs.DecimalLemmas.{wide_of-decimal}
use Rattle.ext_reading.specs.Parts.{is_quoted, numeral_of}

-- words
byte_plain : (byte : ℕ) → is_word_byte byte ≡ true → is_separator byte ≡ false
byte_plain byte is = grind (arith, nat_tests)

plain_byte_plain : (byte : ℕ) → is_plain_byte byte ≡ true → is_separator byte ≡ false
plain_byte_plain byte is = grind (arith, nat_tests)

pub IsWord-word : (word : List ℕ) → is_word word ≡ true → IsWord word
IsWord-word word is =
    let parts = and_parts (nat_le 1 (length word)) (list_all is_word_byte word) is in
    record {
      some = let some = parts.0 in grind (arith, nat_tests);
      plain = All-from_In (λ byte. is_separator byte ≡ false) word (λ byte h. byte_plain byte (list_all-In is_word_byte word byte parts.1 h));
    }

pub IsWord-plain : (word : List ℕ) → is_plain_name word ≡ true → IsWord word
IsWord-plain word is =
    let parts = and_parts (nat_le 1 (length word) && nat_le (length word) LONGEST_NAME) (list_all is_plain_byte word) is in
    let first = and_parts (nat_le 1 (length word)) (nat_le (length word) LONGEST_NAME) parts.0 in
    record {
      some = let some = first.0 in grind (arith, nat_tests);
      plain = All-from_In (λ byte. is_separator byte ≡ false) word (λ byte h. plain_byte_plain byte (list_all-In is_plain_byte word byte parts.1 h));
    }

pub node_name_word : (name : List ℕ) → is_node_name name ≡ true → is_word name ≡ true
node_name_word name is = (and_parts (is_word name) _ is).0

-- a name between quotes, of whatever bytes that do not end a word
pub IsWord-quoted : (name : List ℕ) → list_all is_word_byte name ≡ true → IsWord (quoted name)
IsWord-quoted name all = record {
  some = omega arith;
  plain = All-from_In (λ byte. is_separator byte ≡ false) (quoted name) (λ byte h. elim h [
    | inl e ↦ subst (λ (b : ℕ). is_separator b ≡ false) e refl
    | inr there ↦ elim (In-push_cases byte name 34 there) [
      | inl inside ↦ byte_plain byte (list_all-In is_word_byte name byte all inside)
      | inr e ↦ subst (λ (b : ℕ). is_separator b ≡ false) e refl
    ]
  ]);
}

pub word_bytes : (name : List ℕ) → is_word name ≡ true → list_all is_word_byte name ≡ true
word_bytes name is = (and_parts (nat_le 1 (length name)) (list_all is_word_byte name) is).1

-- what stands between the quotes
quotes_are : (length_is begins ends : Bool) → length_is ≡ true → begins ≡ true → ends ≡ true → (length_is && begins && ends) ≡ true
quotes_are true true true a b c = refl
quotes_are _ _ _ a b c = absurd (let no : ⊥ = cc in no)

is_quoted-quoted : (name : List ℕ) → is_quoted (quoted name) ≡ true
is_quoted-quoted name =
    let many = length-append name (34 ∷ []) in
    let last : length (quoted name) - 1 ≡ length (34 ∷ name) = omega (arith, many) in
    let at_end : slice_index (quoted name) (length (quoted name) - 1) ≡ 34 =
    ap (slice_index (quoted name)) last ∙ get_or-append_seam (34 ∷ name) 34 [] 0 in
    quotes_are (nat_le 2 (length (quoted name))) (slice_index (quoted name) 0 == 34) (slice_index (quoted name) (length (quoted name) - 1) == 34)
    (let two : 2 ≤ length (quoted name) = omega (arith, many) in grind (arith, nat_tests)) refl (ap (λ (k : ℕ). k == 34) at_end)

pub unquoted-quoted : (name : List ℕ) → unquoted (quoted name) ≡ name
unquoted-quoted name =
    let many = length-append name (34 ∷ []) in
    let inner : length (quoted name) - 2 ≡ length name = omega (arith, many) in
    ap (λ (b : Bool). cond b (take (length (quoted name) - 2) (drop 1 (quoted name))) (quoted name)) (is_quoted-quoted name)
    ∙ (ap (λ (k : ℕ). take k (name ++ 34 ∷ [])) inner ∙ take-append_seam name (34 ∷ []))

-- words of their forms
pub formed : (test : Bool) (word : List ℕ) → test ≡ true → if_formed test word ≡ Ok word
formed test word is = ap (λ (b : Bool). cond b (Ok word) (Err BadLine)) is

pub node_name_in-quoted : (name : List ℕ) → is_node_name name ≡ true → node_name_in (quoted name) ≡ Ok name
node_name_in-quoted name is = ap (λ (n : List ℕ). if_formed (is_node_name n) n) (unquoted-quoted name) ∙ formed (is_node_name name) name is

-- numbers
pub numeral_in-decimal : (z : ℤ) → FitsSigned w128 z → numeral_in (decimal z) ≡ Ok (Some z)
numeral_in-decimal z fits = ap numeral_of (wide_of-decimal z fits)

pub measure_fits : (z : ℤ) → IsMeasure z → FitsSigned w128 z
measure_fits z is = grind (arith, ints)

pub short_fits_wide : (z : ℤ) → FitsSigned w32 z → FitsSigned w128 z
short_fits_wide z is = grind (arith, ints)

pub numeral_in-measure : (z : ℤ) → IsMeasure z → numeral_in (decimal z) ≡ Ok (Some z)
numeral_in-measure z is = numeral_in-decimal z (measure_fits z is)

pub numeral_in-short : (z : ℤ) → FitsSigned w32 z → numeral_in (decimal z) ≡ Ok (Some z)
numeral_in-short z is = numeral_in-decimal z (short_fits_wide z is)

pub is_short-fits : (z : ℤ) → FitsSigned w32 z → is_short z ≡ true
is_short-fits z fits = grind (arith, ints)

pub short_in-short : (z : ℤ) → FitsSigned w32 z → short_in (Some z) ≡ Ok z
short_in-short z fits = ap (λ (b : Bool). cond b (Ok z) (Err Range)) (is_short-fits z fits)

pub measure_in-measure : (z : ℤ) → IsMeasure z → measure_in (Some z) ≡ Ok z
measure_in-measure z is = ap (λ (b : Bool). cond b (Ok z) (Err Range)) (lt-ltb (unsigned_abs z) MEASURE_EDGE is)

-- measures
abbrev pub IsMeasured : ℤ × ℤ → Type 0
IsMeasured measure = IsMeasure measure.0 × IsMeasure measure.1

abbrev pub numerals_of : List (ℤ × ℤ) → List (Option ℤ)
numerals_of measures = flat_map (λ measure. Some measure.0 ∷ Some measure.1 ∷ []) measures

pub numerals_from-measures : (numerals : List (Option ℤ)) (measures : List (ℤ × ℤ)) → AllByRecursion IsMeasured measures
    → numerals_from numerals (measure_words measures) ≡ Ok (numerals ++ numerals_of measures)
numerals_from-measures numerals [] all = ap Ok (sym (append-nil numerals))
numerals_from-measures numerals (m ∷ measures) all =
    let one = numeral_in-measure m.0 all.0.0 in
    let two = numeral_in-measure m.1 all.0.1 in
    ap (λ found. and_then found (λ n. numerals_from (numerals ++ n ∷ []) (decimal m.1 ∷ measure_words measures))) one
    ∙ (ap (λ found. and_then found (λ n. numerals_from ((numerals ++ Some m.0 ∷ []) ++ n ∷ []) (measure_words measures))) two
    ∙ (numerals_from-measures ((numerals ++ Some m.0 ∷ []) ++ Some m.1 ∷ []) measures all.1
    ∙ ap Ok (append_assoc (numerals ++ Some m.0 ∷ []) (Some m.1 ∷ []) (numerals_of measures)
    ∙ append_assoc numerals (Some m.0 ∷ []) (Some m.1 ∷ numerals_of measures))))

pub words-measures : (measures : List (ℤ × ℤ)) → AllByRecursion IsWord (measure_words measures)
words-measures [] = tt
words-measures (m ∷ measures) = (IsWord-decimal m.0, (IsWord-decimal m.1, words-measures measures))

pub length-numerals_of : (measures : List (ℤ × ℤ)) → length (numerals_of measures) ≡ length measures + length measures
length-numerals_of [] = refl
length-numerals_of (m ∷ measures) = let rest = length-numerals_of measures in omega (arith, rest)

pub measures_from-numerals : (before measures : List (ℤ × ℤ)) → AllByRecursion IsMeasured measures → measures_from before (numerals_of measures)
    ≡ Ok (before ++ measures)
measures_from-numerals before [] all = ap Ok (sym (append-nil before))
measures_from-numerals before (m ∷ measures) all =
    let one = measure_in-measure m.0 all.0.0 in
    let two = measure_in-measure m.1 all.0.1 in
    let pair : pair_in (Some m.0) (Some m.1) ≡ Ok m =
    ap (λ found. and_then found (λ area. and_then (measure_in (Some m.1)) (λ perimeter. Ok (area, perimeter)))) one
    ∙ ap (λ found. and_then found (λ perimeter. Ok (m.0, perimeter))) two in
    ap (λ found. and_then found (λ measure. measures_from (before ++ measure ∷ []) (numerals_of measures))) pair
    ∙ (measures_from-numerals (before ++ m ∷ []) measures all.1 ∙ ap Ok (append_assoc before (m ∷ []) measures))

-- the values of classes
abbrev pub values_said : List ℕ → List (Option ℤ)
values_said values = map (λ value. Some (pos value)) values

value_fits : (n : ℕ) → n ≤ GREATEST_CLASS_VALUE → FitsSigned w128 (pos n)
value_fits n few = grind (arith, ints)

pub numerals_from-values : (numerals : List (Option ℤ)) (values : List ℕ) → AllByRecursion (λ v. v ≤ GREATEST_CLASS_VALUE) values
    → numerals_from numerals (map (λ value. decimal (pos value)) values) ≡ Ok (numerals ++ values_said values)
numerals_from-values numerals [] all = ap Ok (sym (append-nil numerals))
numerals_from-values numerals (v ∷ values) all =
    ap (λ found. and_then found (λ n. numerals_from (numerals ++ n ∷ []) (map (λ value. decimal (pos value)) values)))
    (numeral_in-decimal (pos v) (value_fits v all.0))
    ∙ (numerals_from-values (numerals ++ Some (pos v) ∷ []) values all.1 ∙ ap Ok (append_assoc numerals (Some (pos v) ∷ []) (values_said values)))

pub words-values : (values : List ℕ) → AllByRecursion IsWord (map (λ value. decimal (pos value)) values)
words-values [] = tt
words-values (v ∷ values) = (IsWord-decimal (pos v), words-values values)

class_value_in-value : (n : ℕ) → n ≤ GREATEST_CLASS_VALUE → class_value_in (Some (pos n)) ≡ Ok n
class_value_in-value n few = ap (λ (b : Bool). cond b (Ok n) (Err Range)) (let is : nat_le n GREATEST_CLASS_VALUE ≡ true = grind (arith, nat_tests) in is)

pub class_values_from-values : (before values : List ℕ) → AllByRecursion (λ v. v ≤ GREATEST_CLASS_VALUE) values
    → class_values_from before (values_said values) ≡ Ok (before ++ values)
class_values_from-values before [] all = ap Ok (sym (append-nil before))
class_values_from-values before (v ∷ values) all =
    ap (λ found. and_then found (λ value. class_values_from (before ++ value ∷ []) (values_said values))) (class_value_in-value v all.0)
    ∙ (class_values_from-values (before ++ v ∷ []) values all.1 ∙ ap Ok (append_assoc before (v ∷ []) values))

-- gates and terminals
abbrev pub IsWrittenTerm : TermRec → Type 0
IsWrittenTerm side = (is_node_name side.node ≡ true) × IsMeasure side.length

abbrev pub side_said : TermRec → SideLine
side_said side = record { node = side.node; length = Some side.length }

pub side_in-term : (side : TermRec) → IsWrittenTerm side → side_in (quoted side.node) (decimal side.length) ≡ Ok (side_said side)
side_in-term side is =
    ap (λ found. and_then found (λ node. and_then (numeral_in (decimal side.length)) (λ length. Ok (record { node = node; length = length }))))
    (node_name_in-quoted side.node is.0)
    ∙ ap (λ found. and_then found (λ length. Ok (record { node = side.node; length = length }))) (numeral_in-measure side.length is.1)

pub sides_from-terms : (sides : List SideLine) (terms : List TermRec) → AllByRecursion IsWrittenTerm terms
    → sides_from sides (flat_map term_words terms) ≡ Ok (sides ++ map side_said terms)
sides_from-terms sides [] all = ap Ok (sym (append-nil sides))
sides_from-terms sides (t ∷ terms) all =
    ap (λ found. and_then found (λ side. sides_from (sides ++ side ∷ []) (flat_map term_words terms))) (side_in-term t all.0)
    ∙ (sides_from-terms (sides ++ side_said t ∷ []) terms all.1 ∙ ap Ok (append_assoc sides (side_said t ∷ []) (map side_said terms)))

pub words-term : (side : TermRec) → IsWrittenTerm side → (rest : List (List ℕ)) → AllByRecursion IsWord rest → AllByRecursion IsWord (term_words side ++ rest)
words-term side is rest all =
    (IsWord-quoted side.node (word_bytes side.node (node_name_word side.node is.0)), (IsWord-decimal side.length, (IsWord-test (codes "0") refl, all)))

pub words-terms : (terms : List TermRec) → AllByRecursion IsWrittenTerm terms → AllByRecursion IsWord (flat_map term_words terms)
words-terms [] all = tt
words-terms (t ∷ terms) all = words-term t all.0 (flat_map term_words terms) (words-terms terms all.1)

pub term_in-term : (side : TermRec) → IsMeasure side.length → term_in (side_said side) ≡ Ok side
term_in-term side is = ap (λ found. and_then found (λ length. Ok (record { node = side.node; length = length }))) (measure_in-measure side.length is)

pub terms_from-terms : (before terms : List TermRec) → AllByRecursion IsWrittenTerm terms → terms_from before (map side_said terms) ≡ Ok (before ++ terms)
terms_from-terms before [] all = ap Ok (sym (append-nil before))
terms_from-terms before (t ∷ terms) all =
    ap (λ found. and_then found (λ term. terms_from (before ++ term ∷ []) (map side_said terms))) (term_in-term t all.0.1)
    ∙ (terms_from-terms (before ++ t ∷ []) terms all.1 ∙ ap Ok (append_assoc before (t ∷ []) terms))
