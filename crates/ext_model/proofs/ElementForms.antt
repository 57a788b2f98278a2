-- The names of elements have the form of names of nodes.
use Rattle.ext_model.proofs.Common.{◌≡◌, ◌≤◌, ◌==◌, ℕ, suc, ℤ, pos, negsuc, true, List, [], ◌∷◌, ◌++◌, length, IsTrue, inl, inr, refl, sym, subst}
use Rattle.ext_model.proofs.Common.{arith, length-append, is_ascii_digit, list_all, all_ascii_digits, and_parts, eq-eqb, nat_tests, digit_is}
use Rattle.ext_model.proofs.Common.{LONGEST_USE_ID, SLASH, is_node_name, is_word, slashes_in, is_use_id, is_use_id_byte, indexed_name}
use Rattle.std.specs.Prelude.{nat_le, ◌&&◌, ◌⊎◌}
use Rattle.std.proofs.lemmas.Bool.{and_from, le-leb, leb-true}
use Rattle.text_scan.specs.Decimal.{decimal, natural_text}
use Rattle.text_scan.proofs.DecimalLemmas.{all_ascii_digits-natural_text}
use Rattle.ext_model.specs.NodeNames.{is_word_byte}
use Rattle.ext_model.specs.ElementNames.{IsIndexed}
use Rattle.ext_model.proofs.TextCuts.{Lacks, lacks-append, no_slashes}
use Rattle.ext_model.proofs.IndexedNames.{id_whole, number_whole}

-- each byte of the text is one of a word
abbrev HasWordBytes : List ℕ → Type 0
HasWordBytes text = list_all is_word_byte text ≡ true

-- texts one behind the other have them
bytes_append : (text more : List ℕ) → HasWordBytes text → HasWordBytes more → HasWordBytes (text ++ more)
bytes_append [] more first second = second
bytes_append (byte ∷ text) more first second =
    let parts = and_parts (is_word_byte byte) (list_all is_word_byte text) first in
    and_from (is_word_byte byte) (list_all is_word_byte (text ++ more)) parts.0 (bytes_append text more parts.1 second)

-- a byte of an id is one
id_byte : (byte : ℕ) → is_use_id_byte byte ≡ true → is_word_byte byte ≡ true
id_byte byte is = grind (arith, nat_tests)

-- so are those of ids
word_bytes : (text : List ℕ) → list_all is_use_id_byte text ≡ true → HasWordBytes text
word_bytes [] all = refl
word_bytes (byte ∷ text) all =
    let parts = and_parts (is_use_id_byte byte) (list_all is_use_id_byte text) all in
    and_from (is_word_byte byte) (list_all is_word_byte text) (id_byte byte parts.0) (word_bytes text parts.1)

-- a digit is one
digit_byte : (byte : ℕ) → 48 ≤ byte → byte ≤ 57 → is_word_byte byte ≡ true
digit_byte byte low high = grind (arith, nat_tests)

-- and those of digits
digit_bytes : (text : List ℕ) → all_ascii_digits text ≡ true → HasWordBytes text
digit_bytes [] all = refl
digit_bytes (byte ∷ text) all =
    let parts = and_parts (is_ascii_digit byte) (all_ascii_digits text) all in
    let is = digit_is byte parts.0 in
    and_from (is_word_byte byte) (list_all is_word_byte text) (digit_byte byte is.0 (omega (arith, is.1))) (digit_bytes text parts.1)

-- and those of numbers
number_bytes : (z : ℤ) → HasWordBytes (decimal z)
unfolding decimal
number_bytes (pos n) = digit_bytes (natural_text n) (all_ascii_digits-natural_text n)
number_bytes (negsuc n) = digit_bytes (natural_text (suc n)) (all_ascii_digits-natural_text (suc n))

-- a text of such bytes without a slash is a name of a node
form_from : (text : List ℕ) → 1 ≤ length text → HasWordBytes text → slashes_in text ≡ 0 → IsTrue (is_node_name text)
form_from text some bytes whole =
    and_from (is_word text) (slashes_in text == 0)
    (and_from (nat_le 1 (length text)) (list_all is_word_byte text) (le-leb 1 (length text) some) bytes) (eq-eqb (slashes_in text) 0 whole)

-- An id has a byte, its bytes are those of words, and none is a slash.
record IsIdText (id : List ℕ) : Type 0 where
  some : 1 ≤ length id
  bytes : HasWordBytes id
  whole : Lacks SLASH id

id_text : (id : List ℕ) → IsTrue (is_use_id id) → IsIdText id
id_text id is =
    let parts = and_parts (nat_le 1 (length id) && nat_le (length id) LONGEST_USE_ID) (list_all is_use_id_byte id) is in
    let long = and_parts (nat_le 1 (length id)) (nat_le (length id) LONGEST_USE_ID) parts.0 in
    record {
      some = leb-true 1 (length id) long.0;
      bytes = word_bytes id parts.1;
      whole = id_whole id is;
    }

-- an id is a name of a node
pub id_form : (id : List ℕ) → IsTrue (is_use_id id) → IsTrue (is_node_name id)
id_form id is =
    let text = id_text id is in
    form_from id text.some text.bytes (no_slashes id text.whole)

-- and so is one with indices
pub indexed_form : (id : List ℕ) (i j : ℤ) → IsTrue (is_use_id id) → IsTrue (is_node_name (indexed_name id i j))
indexed_form id i j is =
    let text = id_text id is in
    let last = bytes_append (decimal j) (93 ∷ []) (number_bytes j) refl in
    let both = bytes_append (decimal i) (44 ∷ (decimal j ++ 93 ∷ [])) (number_bytes i) last in
    let whole : Lacks SLASH (indexed_name id i j) =
    lacks-append SLASH id (91 ∷ (decimal i ++ 44 ∷ (decimal j ++ 93 ∷ []))) text.whole (
      refl,
      lacks-append SLASH (decimal i) (44 ∷ (decimal j ++ 93 ∷ [])) (number_whole i)
          (refl, lacks-append SLASH (decimal j) (93 ∷ []) (number_whole j) (refl, tt)),
    ) in
    form_from (indexed_name id i j) (let first = text.some in
    let long = length-append id (91 ∷ (decimal i ++ 44 ∷ (decimal j ++ 93 ∷ []))) in omega (arith, first, long))
    (bytes_append id (91 ∷ (decimal i ++ 44 ∷ (decimal j ++ 93 ∷ []))) text.bytes both) (no_slashes (indexed_name id i j) whole)

-- the id of a use without a grid is a name of a node, with or without indices
pub whole_form : (id : List ℕ) → IsTrue (is_use_id id) ⊎ IsIndexed id → IsTrue (is_node_name id)
whole_form id (inl is) = id_form id is
whole_form id (inr is) = subst (λ (name : List ℕ). IsTrue (is_node_name name)) (sym is.text) (indexed_form is.id is.i is.j is.id_form)
