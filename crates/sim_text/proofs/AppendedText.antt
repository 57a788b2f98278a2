-- What is appended, one part behind the other, is the text.
use Rattle.sim_text.proofs.Common.{◌≡◌, ◌+◌, ℕ, ℤ, List, [], ◌∷◌, ◌++◌, length, map, refl, sym, subst, ap, ◌∙◌, arith, append_assoc, append-nil}
use Rattle.sim_text.proofs.Common.{codes, decimal, SimFault, SimFet, SimFile, SimLine, Header, Fet, saying_cap, saying_alias, lines_saying}
use Rattle.sim_text.proofs.Common.{numbers_behind_blanks, IsTooLong}
use Rattle.std.proofs.lemmas.List.{length-append}
use Rattle.std.specs.List.{join_with_byte}
use Rattle.text_scan.specs.Written.{text_of}
use Rattle.sim_text.specs.WrittenTexts.{line_saying, sim_text, whole_line_saying}

-- the word that is appended is the name that it was taken from
pub named : (b a word name : List ℕ) → b ≡ a ++ 32 ∷ word → word ≡ name → b ≡ a ++ 32 ∷ name
named b a word name h is = h ∙ ap (λ (w : List ℕ). a ++ 32 ∷ w) is

numbers_behind : (word : List ℕ) (numbers : List ℤ) → join_with_byte 32 (word ∷ map decimal numbers) ≡ word ++ numbers_behind_blanks numbers
numbers_behind word [] = sym (append-nil word)
numbers_behind word (z ∷ numbers) = ap (λ (rest : List ℕ). word ++ 32 ∷ rest) (numbers_behind (decimal z) numbers)

pub fet_appended : (fet : SimFet) (out a b c d e : List ℕ)
    → a ≡ out ++ fet.letter ∷ [] → b ≡ a ++ 32 ∷ fet.gate → c ≡ b ++ 32 ∷ fet.source → d ≡ c ++ 32 ∷ fet.drain → e ≡ d ++ numbers_behind_blanks fet.numbers
    → e ≡ out ++ line_saying (Fet fet)
fet_appended fet out a b c d e ha hb hc hd he = rw (he, hd, hc, hb, ha, numbers_behind fet.drain fet.numbers) (simp append_assoc)

pub header_appended : (name out a b c : List ℕ)
    → a ≡ out ++ codes "| units: 1 tech:" → b ≡ a ++ 32 ∷ name → c ≡ b ++ codes " format: MIT\n" → c ≡ out ++ whole_line_saying (Header name)
header_appended name out a b c ha hb hc = rw (hc, hb, ha) (simp append_assoc)

-- a text that is too long already is too long with more behind it
pub too_long-more : (fault : SimFault) (text more whole : List ℕ) → text ++ more ≡ whole → IsTooLong fault text → IsTooLong fault whole
too_long-more fault text more whole is long =
    let count : length (text ++ more) ≡ length text + length more = length-append text more in
    subst (IsTooLong fault) is (long.0, omega (arith, long.1, count))

records_text : {X : Type 0} (said : X → SimLine) (records : List X) (more : List SimLine)
    → text_of (map line_saying (map said records ++ more)) ≡ lines_saying said records ++ text_of (map line_saying more)
records_text said [] more = refl
records_text said (x ∷ records) more =
    let first = line_saying (said x) in
    ap (λ (rest : List ℕ). first ++ 10 ∷ rest) (records_text said records more)
    ∙ (sym (append_assoc first (10 ∷ []) (lines_saying said records ++ text_of (map line_saying more)))
    ∙ sym (append_assoc (whole_line_saying (said x)) (lines_saying said records) (text_of (map line_saying more))))

last_records_text : {X : Type 0} (said : X → SimLine) (records : List X) → text_of (map line_saying (map said records)) ≡ lines_saying said records
last_records_text said [] = refl
last_records_text said (x ∷ records) =
    let first = line_saying (said x) in
    ap (λ (rest : List ℕ). first ++ 10 ∷ rest) (last_records_text said records) ∙ sym (append_assoc first (10 ∷ []) (lines_saying said records))

-- the text by its parts
pub sim_text-parts : (sim : SimFile) → sim_text sim
    ≡ whole_line_saying (Header sim.tech) ++ (lines_saying Fet sim.fets ++ (lines_saying saying_cap sim.caps ++ lines_saying saying_alias sim.aliases))
unfolding sim_text
sim_text-parts sim =
    let header = line_saying (Header sim.tech) in
    let others = lines_saying saying_cap sim.caps ++ lines_saying saying_alias sim.aliases in
    let behind : text_of (map line_saying (map saying_cap sim.caps ++ map saying_alias sim.aliases)) ≡ others =
    records_text saying_cap sim.caps (map saying_alias sim.aliases)
    ∙ ap (λ (rest : List ℕ). lines_saying saying_cap sim.caps ++ rest) (last_records_text saying_alias sim.aliases) in
    let body =
    records_text Fet sim.fets (map saying_cap sim.caps ++ map saying_alias sim.aliases)
    ∙ ap (λ (rest : List ℕ). lines_saying Fet sim.fets ++ rest) behind in
    ap (λ (rest : List ℕ). header ++ 10 ∷ rest) body ∙ sym (append_assoc header (10 ∷ []) (lines_saying Fet sim.fets ++ others))

pub circuit_appended : (sim : SimFile) (out a b c d : List ℕ)
    → a ≡ out ++ whole_line_saying (Header sim.tech) → b ≡ a ++ lines_saying Fet sim.fets → c ≡ b ++ lines_saying saying_cap sim.caps
    → d ≡ c ++ lines_saying saying_alias sim.aliases → d ≡ out ++ sim_text sim
circuit_appended sim out a b c d ha hb hc hd = rw (hd, hc, hb, ha, sim_text-parts sim) (simp append_assoc)

-- a text that is too long with its first parts is too long
pub fets_too_long : (fault : SimFault) (sim : SimFile) (out a : List ℕ)
    → a ≡ out ++ whole_line_saying (Header sim.tech) → IsTooLong fault (a ++ lines_saying Fet sim.fets) → IsTooLong fault (out ++ sim_text sim)
fets_too_long fault sim out a ha =
    too_long-more fault (a ++ lines_saying Fet sim.fets) (lines_saying saying_cap sim.caps ++ lines_saying saying_alias sim.aliases) (out ++ sim_text sim)
    (rw (ha, sim_text-parts sim) (simp append_assoc))

pub caps_too_long : (fault : SimFault) (sim : SimFile) (out a b : List ℕ)
    → a ≡ out ++ whole_line_saying (Header sim.tech) → b ≡ a ++ lines_saying Fet sim.fets → IsTooLong fault (b ++ lines_saying saying_cap sim.caps)
    → IsTooLong fault (out ++ sim_text sim)
caps_too_long fault sim out a b ha hb =
    too_long-more fault (b ++ lines_saying saying_cap sim.caps) (lines_saying saying_alias sim.aliases) (out ++ sim_text sim)
    (rw (hb, ha, sim_text-parts sim) (simp append_assoc))

pub aliases_too_long : (fault : SimFault) (sim : SimFile) (out a b c : List ℕ)
    → a ≡ out ++ whole_line_saying (Header sim.tech) → b ≡ a ++ lines_saying Fet sim.fets → c ≡ b ++ lines_saying saying_cap sim.caps
    → IsTooLong fault (c ++ lines_saying saying_alias sim.aliases) → IsTooLong fault (out ++ sim_text sim)
aliases_too_long fault sim out a b c ha hb hc long =
    subst (IsTooLong fault) (circuit_appended sim out a b c (c ++ lines_saying saying_alias sim.aliases) ha hb hc refl) long
