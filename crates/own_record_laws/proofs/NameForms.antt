-- Texts of a layout with labels have the forms that a record wants: words, and names of nodes.
use Rattle.own_record_laws.proofs.Common.{◌≡◌, ℕ, suc, ◌<◌, ℤ, pos, negsuc, Bool, true, false, cond, IsTrue, List, [], ◌∷◌, length, inl, inr, refl}
use Rattle.own_record_laws.proofs.Common.{sym, ◌∙◌, ap, subst, arith, is_ascii_digit, all_ascii_digits, sum_by-cons, In, In-append_cases, In-get_or}
use Rattle.own_record_laws.proofs.Common.{All-In, digit_is, Square, Label, RawTech, IsWellFormed, is_word, is_node_name, Layout, Place, HasText}
use Rattle.own_record_laws.proofs.Common.{label_at, coordinate_text, generated_name, IsNameOf}
use Rattle.std.proofs.Common.{◌+◌, ◌≤◌, ◌&&◌, ◌==◌, ◌++◌}
use Rattle.std.proofs.Common.{length-append}
use Rattle.std.specs.Prelude.{nat_le, codes}
use Rattle.std.specs.List.{list_all}
use Rattle.std.proofs.lemmas.Bool.{and_parts, and_from, le-leb, leb-true, eq-eqb}
use Rattle.std.proofs.lemmas.Bool.Decides.{nat_tests}
use Rattle.full_names.proofs.FiniteSets.Searches.{list_all-In}
use Rattle.full_names.specs.TextScan.Decimal.{natural_text, decimal}
use Rattle.full_names.specs.TextScan.PlainNames.{is_plain_byte, is_plain_name}
use Rattle.full_names.specs.TextScan.declared.plain_name.TheConstants.{LONGEST_NAME}
use Rattle.full_names.proofs.TextScan.DecimalLemmas.{all_ascii_digits-natural_text}
use Rattle.tree_records.specs.TechModel.declared.limits.TheConstants.{LONGEST_LABEL}
use Rattle.tree_records.specs.TechModel.Forms.{is_label_byte, is_layer_name, is_naming_label}
use Rattle.tree_records.specs.TechModel.Types.{is_type, layer_at, layer_of, first_name}
use Rattle.tree_records.proofs.TechModel.WellFormedLaws.{layer_well_formed}
use Rattle.full_names.specs.ExtModel.declared.names.TheConstants.{SLASH}
use Rattle.full_names.specs.ExtModel.NodeNames.{is_word_byte, slashes_in}

-- A byte that a name of a node may have.
record IsNameByte (byte : ℕ) : Type 0 where
  word : is_word_byte byte ≡ true
  whole : (byte == SLASH) ≡ false

-- each byte of the text is one that a name of a node may have
abbrev AreNameBytes : List ℕ → Type 0
AreNameBytes text = (byte : ℕ) → In byte text → IsNameByte byte

-- a byte of a plain name is one
plain_byte : (byte : ℕ) → is_plain_byte byte ≡ true → IsNameByte byte
plain_byte byte is = record { word = grind (arith, nat_tests); whole = grind (arith, nat_tests) }

-- a byte of a label is one of a word
label_byte : (byte : ℕ) → is_label_byte byte ≡ true → is_word_byte byte ≡ true
label_byte byte is = grind (arith, nat_tests)

-- a digit is one
digit_byte : (byte : ℕ) → 48 ≤ byte → byte < 58 → IsNameByte byte
digit_byte byte low high = record { word = grind (arith, nat_tests); whole = grind (arith, nat_tests) }

-- texts one behind the other
bytes_append : (text more : List ℕ) → AreNameBytes text → AreNameBytes more → AreNameBytes (text ++ more)
bytes_append text more first second byte here = elim (In-append_cases byte text more here) [ inl old ↦ first byte old | inr new ↦ second byte new ]

-- a text of one byte
one_byte : (byte : ℕ) → IsNameByte byte → AreNameBytes (byte ∷ [])
one_byte byte is other (inl same) = subst IsNameByte same is
one_byte byte is other (inr none) = absurd none

-- a text each of whose bytes is one of a word
word_bytes : (text : List ℕ) → ((byte : ℕ) → In byte text → is_word_byte byte ≡ true) → list_all is_word_byte text ≡ true
word_bytes [] each = refl
word_bytes (byte ∷ text) each =
    and_from (is_word_byte byte) (list_all is_word_byte text) (each byte (inl refl)) (word_bytes text (λ other here. each other (inr here)))

-- such a text has no slash
no_slash : (text : List ℕ) → AreNameBytes text → slashes_in text ≡ 0
no_slash [] each = refl
no_slash (byte ∷ text) each =
    sum_by-cons (λ (b : ℕ). cond (b == SLASH) 1 0) byte text
    ∙ ap (λ (b : Bool). cond b 1 0 + slashes_in text) (each byte (inl refl)).whole
    ∙ omega (arith, no_slash text (λ other here. each other (inr here)))

-- a text of bytes of words is a word
word_from : (text : List ℕ) → 1 ≤ length text → ((byte : ℕ) → In byte text → is_word_byte byte ≡ true) → IsTrue (is_word text)
word_from text some each = and_from (nat_le 1 (length text)) (list_all is_word_byte text) (le-leb 1 (length text) some) (word_bytes text each)

-- a text of such bytes is a name of a node
node_name_from : (text : List ℕ) → 1 ≤ length text → AreNameBytes text → IsTrue (is_node_name text)
node_name_from text some each =
    and_from (is_word text) (slashes_in text == 0) (word_from text some (λ byte here. (each byte here).word))
    (eq-eqb (slashes_in text) 0 (no_slash text each))

-- A text that is not empty, of such bytes.
record IsPlainText (text : List ℕ) : Type 0 where
  some : 1 ≤ length text
  bytes : AreNameBytes text

-- a plain name is such a text
plain_text : (text : List ℕ) → IsTrue (is_plain_name text) → IsPlainText text
plain_text text is =
    let parts = and_parts (nat_le 1 (length text) && nat_le (length text) LONGEST_NAME) (list_all is_plain_byte text) is in
    let long = and_parts (nat_le 1 (length text)) (nat_le (length text) LONGEST_NAME) parts.0 in
    record {
      some = leb-true 1 (length text) long.0;
      bytes = λ byte here. plain_byte byte (list_all-In is_plain_byte text byte parts.1 here);
    }

-- a plain name is a word
pub plain_word : (name : List ℕ) → IsTrue (is_plain_name name) → IsTrue (is_word name)
plain_word name is = let text = plain_text name is in word_from name text.some (λ byte here. (text.bytes byte here).word)

-- and so is the form of a label that names
pub label_word : (text : List ℕ) → IsTrue (is_naming_label text) → IsTrue (is_word text)
label_word text is =
    let whole = and_parts (nat_le 1 (length text) && nat_le (length text) LONGEST_LABEL && list_all is_label_byte text) _ is in
    let parts = and_parts (nat_le 1 (length text) && nat_le (length text) LONGEST_LABEL) (list_all is_label_byte text) whole.0 in
    let long = and_parts (nat_le 1 (length text)) (nat_le (length text) LONGEST_LABEL) parts.0 in
    word_from text (leb-true 1 (length text) long.0) (λ byte here. label_byte byte (list_all-In is_label_byte text byte parts.1 here))

-- the bytes of digits
digit_bytes : (text : List ℕ) → all_ascii_digits text ≡ true → AreNameBytes text
digit_bytes [] all byte none = absurd none
digit_bytes (first ∷ text) all byte (inl same) =
    let is = digit_is first (and_parts (is_ascii_digit first) (all_ascii_digits text) all).0 in
    subst IsNameByte same (digit_byte first is.0 is.1)
digit_bytes (first ∷ text) all byte (inr later) = digit_bytes text (and_parts (is_ascii_digit first) (all_ascii_digits text) all).1 byte later

-- the bytes of a coordinate
coordinate_bytes : (z : ℤ) → AreNameBytes (coordinate_text z)
unfolding decimal
coordinate_bytes (pos n) = digit_bytes (natural_text n) (all_ascii_digits-natural_text n)
coordinate_bytes (negsuc n) =
    bytes_append (codes "n") (natural_text (suc n)) (one_byte 110 (record { word = refl; whole = refl }))
    (digit_bytes (natural_text (suc n)) (all_ascii_digits-natural_text (suc n)))

module _ (raw : RawTech) (well : IsWellFormed raw) where
  -- the text by which a type is written
  type_text : (kind : ℕ) → IsTrue (is_type raw kind) → IsPlainText (first_name (layer_at raw (layer_of raw kind)))
  type_text kind type =
      let layer = layer_well_formed raw (layer_of raw kind) well (well.type_layers kind type) in
      let name = first_name (layer_at raw (layer_of raw kind)) in
      let is : IsTrue (is_layer_name name) =
      All-In (λ (n : List ℕ). IsTrue (is_layer_name n)) (layer_at raw (layer_of raw kind)).names name layer.names
      (In-get_or (layer_at raw (layer_of raw kind)).names 0 [] layer.named) in
      plain_text name (and_parts (is_plain_name name) _ is).0

  -- the word by which a type is written is one
  pub type_word : (kind : ℕ) → IsTrue (is_type raw kind) → IsTrue (is_word (first_name (layer_at raw (layer_of raw kind))))
  type_word kind type =
      let text = type_text kind type in
      word_from (first_name (layer_at raw (layer_of raw kind))) text.some (λ byte here. (text.bytes byte here).word)

  -- a generated name is a name of a node
  generated_form : (kind : ℕ) (square : Square) → IsTrue (is_type raw kind) → IsTrue (is_node_name (generated_name raw kind square))
  generated_form kind square type =
      let text = type_text kind type in
      let word = first_name (layer_at raw (layer_of raw kind)) in
      let joint = one_byte 95 (record { word = refl; whole = refl }) in
      let mark = one_byte 35 (record { word = refl; whole = refl }) in
      let x = coordinate_text square.x in
      let y = coordinate_text square.y in
      let named = bytes_append word (codes "_") text.bytes joint in
      let across = bytes_append (word ++ codes "_") x named (coordinate_bytes square.x) in
      let joined = bytes_append (word ++ codes "_" ++ x) (codes "_") across joint in
      let up = bytes_append (word ++ codes "_" ++ x ++ codes "_") y joined (coordinate_bytes square.y) in
      let long = length-append (word ++ codes "_" ++ x ++ codes "_" ++ y) (codes "#") in
      node_name_from (generated_name raw kind square) (omega (arith, long))
      (bytes_append (word ++ codes "_" ++ x ++ codes "_" ++ y) (codes "#") up mark)

  -- a text that names is a name of a node
  text_form : (layout : Layout) (labels : List Label) (text : List ℕ) (place : Place) → HasText raw layout labels text place → IsTrue (is_node_name text)
  text_form layout labels text place has =
      let is = (and_parts (is_node_name (label_at labels has.index).text) _ has.names.attaches.names).0 in
      subst (λ (t : List ℕ). IsTrue (is_node_name t)) has.is is

  -- and so are all names of a node
  pub name_form : (layout : Layout) (labels : List Label) (least : Place) (name : List ℕ) → IsTrue (is_type raw (layout least))
      → IsNameOf raw layout labels least name → IsTrue (is_node_name name)
  name_form layout labels least name type (inl given) = text_form layout labels name given.place given.text
  name_form layout labels least name type (inr made) =
      subst (λ (t : List ℕ). IsTrue (is_node_name t)) (sym made.1) (generated_form (layout least) least.square type)
