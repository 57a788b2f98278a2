-- A written line is read as what it says.
use Rattle.sim_text.proofs.Common.{◌≡◌, ◌≤◌, ◌==◌, ◌&&◌, ℕ, ℤ, Bool, true, false, cond, List, [], ◌∷◌, length, map, Ok, Err, refl, ap, ◌∙◌, arith}
use Rattle.sim_text.proofs.Common.{codes, AllByRecursion, decimal, words_of, and_then, NoHeader, SimFet, Header, Fet, Cap, Alias, Nothing}
use Rattle.sim_text.proofs.Common.{is_sim_name, name_in, letter_in, cap_in, four_numbers_in, begins_with_units, says, words_saying}
use Rattle.std.proofs.Common.{FitsSigned, get_or}
use Rattle.std.specs.Prelude.{nat_le, int_lt, neg_ℤ, ◌<ℤ◌}
use Rattle.std.specs.Char.{is_ascii_graphic}
use Rattle.std.specs.Int.{w128}
use Rattle.std.specs.List.{list_all}
use Rattle.std.proofs.lemmas.Bool.{and_parts}
use Rattle.std.proofs.lemmas.Bool.Decides.{Decides-by_and, nat_tests}
use Rattle.std.proofs.lemmas.List.Elements.{All-cons}
use Rattle.std.proofs.lemmas.Int.{ints}
use Rattle.text_scan.specs.Written.{is_separator, IsWord, line_of}
use Rattle.text_scan.proofs.DecimalLemmas.{wide_of-decimal}
use Rattle.text_scan.proofs.WrittenLemmas.{IsWord-decimal, IsWord-test, words_of-line_of, words-decimals}
use Rattle.sim_text.specs.declared.faults.SimFault.TheVariants.{Letter, Name, Range}
use Rattle.sim_text.specs.declared.limits.TheConstants.{LONGEST_SIM_NAME, CAP_EDGE}
use Rattle.sim_text.specs.Parts.{is_letter, is_within_edge, or_bad_line, number_in, within_edge}
use Rattle.sim_text.specs.LineForms.{fet_line, words_say, begins_with_bar, further_line_says, header_words_say}
use Rattle.sim_text.specs.WrittenTexts.{line_saying}
use Rattle.sim_text.specs.Writable.{AreFour, IsWritableFet}

-- names, letters and numbers are words
graphic_separates : (byte : ℕ) → is_ascii_graphic byte ≡ true → is_separator byte ≡ false
graphic_separates byte is = grind (arith, nat_tests)

IsWord-name : (word : List ℕ) → is_sim_name word ≡ true → IsWord word
IsWord-name word is =
    let parts = and_parts (nat_le 1 (length word) && nat_le (length word) LONGEST_SIM_NAME) (list_all is_ascii_graphic word) is in
    let tells = Decides-by_and is_ascii_graphic (λ b. is_ascii_graphic b ≡ true) (list_all is_ascii_graphic) (λ b. (λ e. e, λ e. e)) refl (λ _ _. refl) word in
    record {
      some = let most = and_parts (nat_le 1 (length word)) (nat_le (length word) LONGEST_SIM_NAME) parts.0 in grind (arith, nat_tests, most.0);
      plain = λ k d inside. graphic_separates (get_or word k d) (tells.0 parts.1 k d inside);
    }

pub has_name : (name : List ℕ) → is_sim_name name ≡ true → (length name == 0) ≡ false
has_name name is = let some = (IsWord-name name is).some in grind (arith, nat_tests)

letter_is_no_bar : (byte : ℕ) → is_letter byte ≡ true → (byte == 124) ≡ false
letter_is_no_bar byte is = grind (arith, nat_tests)

letter_is_plain : (byte : ℕ) → is_letter byte ≡ true → is_separator byte ≡ false
letter_is_plain byte is = grind (arith, nat_tests)

IsWord-letter : (byte : ℕ) → is_letter byte ≡ true → IsWord (byte ∷ [])
IsWord-letter byte is = record {
  some = omega arith;
  plain = All-cons (λ b. is_separator b ≡ false) byte [] (letter_is_plain byte is) (λ k d inside. absurd (omega arith));
}

-- the words of each line are words
pub words-Header : (name : List ℕ) → is_sim_name name ≡ true → AllByRecursion IsWord (words_saying (Header name))
words-Header name is = (
  IsWord-test (codes "|") refl,
  (
    IsWord-test (codes "units:") refl,
    (
      IsWord-test (codes "1") refl,
      (IsWord-test (codes "tech:") refl, (IsWord-name name is, (IsWord-test (codes "format:") refl, (IsWord-test (codes "MIT") refl, tt)))),
    ),
  ),
)

pub words-Fet : (fet : SimFet) → IsWritableFet fet → AllByRecursion IsWord (words_saying (Fet fet))
words-Fet fet is =
    let others : AllByRecursion IsWord (fet.source ∷ fet.drain ∷ map decimal fet.numbers) =
    (IsWord-name fet.source is.source, (IsWord-name fet.drain is.drain, words-decimals fet.numbers)) in
    (IsWord-letter fet.letter is.letter, (IsWord-name fet.gate is.gate, others))

pub words-Cap : (node : List ℕ) (cap : ℤ) → is_sim_name node ≡ true → AllByRecursion IsWord (words_saying (Cap node cap))
words-Cap node cap is = (IsWord-test (codes "C") refl, (IsWord-name node is, (IsWord-test (codes "GND!") refl, (IsWord-decimal cap, tt))))

pub words-Alias : (node alias : List ℕ) → is_sim_name node ≡ true → is_sim_name alias ≡ true → AllByRecursion IsWord (words_saying (Alias node alias))
words-Alias node alias is other = (IsWord-test (codes "=") refl, (IsWord-name node is, (IsWord-name alias other, tt)))

-- the parts of a line are read as what they are
name_in-name : (word : List ℕ) → is_sim_name word ≡ true → name_in word ≡ Ok word
name_in-name word is = ap (λ (b : Bool). cond b (Ok word) (Err Name)) is

letter_in-letter : (byte : ℕ) → is_letter byte ≡ true → letter_in (byte ∷ []) ≡ Ok byte
letter_in-letter byte is = ap (λ (b : Bool). cond b (Ok byte) (Err Letter)) is

number_in-decimal : (z : ℤ) → FitsSigned w128 z → number_in (decimal z) ≡ Ok z
number_in-decimal z fits = ap or_bad_line (wide_of-decimal z fits)

four_numbers_in-decimals : (l w x y : ℤ) → AreFour (l ∷ w ∷ x ∷ y ∷ [])
    → four_numbers_in (decimal l) (decimal w) (decimal x) (decimal y) ≡ Ok (l ∷ w ∷ x ∷ y ∷ [])
four_numbers_in-decimals l w x y four =
    rw (number_in-decimal l four.0, number_in-decimal w four.1, number_in-decimal x four.2, number_in-decimal y four.3) refl

below : (x y : ℤ) → int_lt x y ≡ true → x <ℤ y
below x y e = grind (arith, ints)

edge_fits : (z : ℤ) → neg_ℤ CAP_EDGE <ℤ z → z <ℤ CAP_EDGE → FitsSigned w128 z
edge_fits z low high = omega (arith, ints)

cap_fits : (z : ℤ) → is_within_edge z ≡ true → FitsSigned w128 z
cap_fits z is =
    let parts = and_parts (int_lt (neg_ℤ CAP_EDGE) z) (int_lt z CAP_EDGE) is in
    edge_fits z (below (neg_ℤ CAP_EDGE) z parts.0) (below z CAP_EDGE parts.1)

cap_in-decimal : (z : ℤ) → is_within_edge z ≡ true → cap_in (decimal z) ≡ Ok z
cap_in-decimal z is =
    ap (λ found. and_then found within_edge) (number_in-decimal z (cap_fits z is)) ∙ ap (λ (b : Bool). cond b (Ok z) (Err Range)) is

-- a line behind the first
behind_first : (k : ℕ) → 2 ≤ k → (k == 1) ≡ false
behind_first k above = grind (arith, nat_tests)

pub says-further : (k : ℕ) (line : List ℕ) → 2 ≤ k → says k line ≡ further_line_says line
says-further k line above = ap (λ (b : Bool). cond b (says 1 line) (further_line_says line)) (behind_first k above)

says-words : (k : ℕ) (words : List (List ℕ))
    → 2 ≤ k → begins_with_bar (line_of words) ≡ false → AllByRecursion IsWord words → says k (line_of words) ≡ words_say words
says-words k words above bar all =
    says-further k (line_of words) above
    ∙ (ap (λ (b : Bool). cond b (Ok Nothing) (words_say (words_of (line_of words)))) bar ∙ ap words_say (words_of-line_of words all))

-- what each line says
pub says-Header : (name : List ℕ) → is_sim_name name ≡ true → says 1 (line_saying (Header name)) ≡ Ok (Header name)
says-Header name is =
    let line = line_saying (Header name) in
    let units : begins_with_units line ≡ true = refl in
    ap (λ (b : Bool). cond b (header_words_say (words_of line)) (Err NoHeader)) units
    ∙ (ap header_words_say (words_of-line_of (words_saying (Header name)) (words-Header name is))
    ∙ ap (λ found. and_then found (λ (n : List ℕ). Ok (Header n))) (name_in-name name is))

fet_line-parts : (letter : ℕ) (gate source drain l w x y : List ℕ) (numbers : List ℤ)
    → letter_in (letter ∷ []) ≡ Ok letter → name_in gate ≡ Ok gate → name_in source ≡ Ok source → name_in drain ≡ Ok drain
    → four_numbers_in l w x y ≡ Ok numbers
    → fet_line (letter ∷ []) gate source drain (four_numbers_in l w x y)
    ≡ Ok (Fet (record { letter = letter; gate = gate; source = source; drain = drain; numbers = numbers }))
fet_line-parts letter gate source drain l w x y numbers h1 h2 h3 h4 h5 = rw (h1, h2, h3, h4, h5) refl

says-four : (k : ℕ) (fet : SimFet) (l w x y : ℤ) → 2 ≤ k → (let whole : SimFet = record fet { numbers = l ∷ w ∷ x ∷ y ∷ [] } in
    IsWritableFet whole → says k (line_saying (Fet whole)) ≡ Ok (Fet whole))
says-four k fet l w x y above is =
    let whole : SimFet = record fet { numbers = l ∷ w ∷ x ∷ y ∷ [] } in
    says-words k (words_saying (Fet whole)) above (letter_is_no_bar fet.letter is.letter) (words-Fet whole is)
    ∙ fet_line-parts fet.letter fet.gate fet.source fet.drain (decimal l) (decimal w) (decimal x) (decimal y) (l ∷ w ∷ x ∷ y ∷ [])
    (letter_in-letter fet.letter is.letter) (name_in-name fet.gate is.gate) (name_in-name fet.source is.source) (name_in-name fet.drain is.drain)
    (four_numbers_in-decimals l w x y is.numbers)

by_numbers : (k : ℕ) (fet : SimFet) (numbers : List ℤ) → 2 ≤ k → AreFour numbers → IsWritableFet (record fet { numbers = numbers })
    → says k (line_saying (Fet (record fet { numbers = numbers }))) ≡ Ok (Fet (record fet { numbers = numbers }))
by_numbers k fet (l ∷ w ∷ x ∷ y ∷ []) above four is = says-four k fet l w x y above is
by_numbers k fet _ above four is = absurd four

pub says-Fet : (k : ℕ) (fet : SimFet) → 2 ≤ k → IsWritableFet fet → says k (line_saying (Fet fet)) ≡ Ok (Fet fet)
says-Fet k fet above is = by_numbers k fet fet.numbers above is.numbers is

pub says-Cap : (k : ℕ) (node : List ℕ) (cap : ℤ) → 2 ≤ k → is_sim_name node ≡ true → is_within_edge cap ≡ true
    → says k (line_saying (Cap node cap)) ≡ Ok (Cap node cap)
says-Cap k node cap above is within =
    says-words k (words_saying (Cap node cap)) above refl (words-Cap node cap is)
    ∙ (ap (λ found. and_then found (λ (n : List ℕ). and_then (cap_in (decimal cap)) (λ c. Ok (Cap n c)))) (name_in-name node is)
    ∙ ap (λ found. and_then found (λ c. Ok (Cap node c))) (cap_in-decimal cap within))

pub says-Alias : (k : ℕ) (node alias : List ℕ) → 2 ≤ k → is_sim_name node ≡ true → is_sim_name alias ≡ true
    → says k (line_saying (Alias node alias)) ≡ Ok (Alias node alias)
says-Alias k node alias above is other =
    says-words k (words_saying (Alias node alias)) above refl (words-Alias node alias is other)
    ∙ (ap (λ found. and_then found (λ (n : List ℕ). and_then (name_in alias) (λ (a : List ℕ). Ok (Alias n a)))) (name_in-name node is)
    ∙ ap (λ found. and_then found (λ (a : List ℕ). Ok (Alias node a))) (name_in-name alias other))
