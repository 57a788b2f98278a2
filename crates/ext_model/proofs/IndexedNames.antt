-- What the name of an element tells: the id of its use, and its two indices.
use Rattle.ext_model.proofs.Common.{◌≡◌, ◌==◌, ◌&&◌, ℕ, ℤ, true, false, List, [], ◌∷◌, ◌++◌, length, refl, sym, ap, ◌∙◌, arith, is_ascii_digit}
use Rattle.ext_model.proofs.Common.{list_all, and_parts, digit_is, LONGEST_USE_ID, SLASH, slashes_in, is_use_id, is_use_id_byte, indexed_name}
use Rattle.std.proofs.Common.{not}
use Rattle.std.proofs.Common.{Result, Ok}
use Rattle.std.specs.Prelude.{nat_le}
use Rattle.std.proofs.lemmas.Bool.{ne_eqb, not-true}
use Rattle.text_scan.specs.declared.numeral.NumFault.{NumFault}
use Rattle.text_scan.specs.Decimal.{decimal}
use Rattle.text_scan.specs.Numbers.{integer_of}
use Rattle.text_scan.proofs.DecimalLemmas.{integer_of-decimal}
use Rattle.ext_model.proofs.TextCuts.{Lacks, front_of, front_of-cut, front_of-whole, lacks-append, lacks-decimal, lacks-passing, no_slashes, one_cut}

-- ---- bytes of ids and of numbers

-- a byte of an id is neither a slash nor an opening bracket
id_byte : (byte : ℕ) → is_use_id_byte byte ≡ true → ((byte == SLASH) ≡ false) × ((byte == 91) ≡ false)
id_byte byte is =
    let a = and_parts (nat_le 33 byte && nat_le byte 126 && not (byte == 47) && not (byte == 91) && not (byte == 93) && not (byte == 44))
    (not (byte == 34)) is in
    let b = and_parts (nat_le 33 byte && nat_le byte 126 && not (byte == 47) && not (byte == 91) && not (byte == 93)) (not (byte == 44)) a.0 in
    let c = and_parts (nat_le 33 byte && nat_le byte 126 && not (byte == 47) && not (byte == 91)) (not (byte == 93)) b.0 in
    let d = and_parts (nat_le 33 byte && nat_le byte 126 && not (byte == 47)) (not (byte == 91)) c.0 in
    let e = and_parts (nat_le 33 byte && nat_le byte 126) (not (byte == 47)) d.0 in
    (not-true (byte == 47) e.1, not-true (byte == 91) d.1)

pub id_bytes : (id : List ℕ) → is_use_id id ≡ true → list_all is_use_id_byte id ≡ true
id_bytes id is = (and_parts (nat_le 1 (length id) && nat_le (length id) LONGEST_USE_ID) (list_all is_use_id_byte id) is).1

-- an id has no slash
pub id_whole : (id : List ℕ) → is_use_id id ≡ true → Lacks SLASH id
id_whole id is = lacks-passing is_use_id_byte SLASH (λ byte passes. (id_byte byte passes).0) id (id_bytes id is)

-- and no opening bracket
pub id_plain : (id : List ℕ) → is_use_id id ≡ true → Lacks 91 id
id_plain id is = lacks-passing is_use_id_byte 91 (λ byte passes. (id_byte byte passes).1) id (id_bytes id is)

digit_apart : (byte : ℕ) → is_ascii_digit byte ≡ true → ((byte == SLASH) ≡ false) × ((byte == 44) ≡ false) × ((byte == 93) ≡ false)
digit_apart byte digit =
    let is = digit_is byte digit in (
      ne_eqb byte SLASH (λ e. omega (arith, is.0, is.1, e)),
      ne_eqb byte 44 (λ e. omega (arith, is.0, is.1, e)),
      ne_eqb byte 93 (λ e. omega (arith, is.0, is.1, e)),
    )

-- the text of a number has no slash
pub number_whole : (z : ℤ) → Lacks SLASH (decimal z)
number_whole = lacks-decimal SLASH (λ byte digit. (digit_apart byte digit).0) refl

-- no comma
pub number_comma : (z : ℤ) → Lacks 44 (decimal z)
number_comma = lacks-decimal 44 (λ byte digit. (digit_apart byte digit).1) refl

-- and no closing bracket
pub number_bracket : (z : ℤ) → Lacks 93 (decimal z)
number_bracket = lacks-decimal 93 (λ byte digit. (digit_apart byte digit).2) refl

-- ---- what names tell

-- the name of an element of an array has no slash
pub indexed_whole : (id : List ℕ) (i j : ℤ) → is_use_id id ≡ true → slashes_in (indexed_name id i j) ≡ 0
indexed_whole id i j is =
    no_slashes (indexed_name id i j)
    (lacks-append SLASH id (91 ∷ (decimal i ++ 44 ∷ (decimal j ++ 93 ∷ []))) (id_whole id is) (
      refl,
      lacks-append SLASH (decimal i) (44 ∷ (decimal j ++ 93 ∷ [])) (number_whole i)
          (refl, lacks-append SLASH (decimal j) (93 ∷ []) (number_whole j) (refl, tt)),
    ))

-- what stands before the bracket is the id
pub id_of_indexed : (id : List ℕ) (i j : ℤ) → is_use_id id ≡ true → front_of 91 (indexed_name id i j) ≡ id
id_of_indexed id i j is = front_of-cut 91 id (decimal i ++ 44 ∷ (decimal j ++ 93 ∷ [])) (id_plain id is)

-- and where there is none, the name is the id
pub id_of_whole : (id : List ℕ) → is_use_id id ≡ true → front_of 91 id ≡ id
id_of_whole id is = front_of-whole 91 id (id_plain id is)

-- numbers with one text are equal
pub decimal_tells : (y z : ℤ) → decimal y ≡ decimal z → y ≡ z
decimal_tells y z e =
    let same : ◌≡◌ {A = Result ℤ NumFault} (Ok y) (Ok z) = sym (integer_of-decimal y) ∙ (ap integer_of e ∙ integer_of-decimal z) in
    cc

-- the name of an element of an array tells its use's id and its two indices
pub indexed_told : (id other : List ℕ) (i j k l : ℤ) → is_use_id id ≡ true → is_use_id other ≡ true → indexed_name id i j ≡ indexed_name other k l
    → (id ≡ other) × (i ≡ k) × (j ≡ l)
indexed_told id other i j k l is other_is same =
    let last : ℤ → List ℕ = λ z. decimal z ++ 93 ∷ [] in
    let both : ℤ → ℤ → List ℕ = λ y z. decimal y ++ 44 ∷ last z in
    let numbers = one_cut 91 id other (both i j) (both k l) (id_plain id is) (id_plain other other_is) same in
    let first = one_cut 44 (decimal i) (decimal k) (last j) (last l) (number_comma i) (number_comma k) numbers.1 in
    let second = one_cut 93 (decimal j) (decimal l) [] [] (number_bracket j) (number_bracket l) first.1 in
    (numbers.0, decimal_tells i k first.0, decimal_tells j l second.0)
