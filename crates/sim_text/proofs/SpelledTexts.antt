-- A text is read as a circuit exactly where its lines spell the circuit, and is refused exactly at its first faulty line.
use Rattle.sim_text.proofs.Common.{◌≡◌, ◌↔◌, ◌+◌, ◌≤◌, ◌==◌, ◌&&◌, ℕ, ℤ, Bool, true, false, cond, List, [], ◌∷◌, ◌++◌, length, Result, Ok, Err, refl}
use Rattle.sim_text.proofs.Common.{sym, subst, ap, ◌∙◌, arith, append_assoc, append-nil, fold, codes, AllByRecursion, lines_of, words_of}
use Rattle.sim_text.proofs.Common.{first_fault_or, text_state, ended_at, last_number, and_then, saying, read_said, said_of, SimFault, NoHeader}
use Rattle.sim_text.proofs.Common.{SimFet, SimFile, SimLine, Header, Fet, Cap, Alias, Nothing, is_sim_name, name_in, letter_in, cap_in}
use Rattle.sim_text.proofs.Common.{four_numbers_in, begins_with_units, says}
use Rattle.std.specs.Prelude.{filter_map}
use Rattle.std.specs.Str.{bytes_eq}
use Rattle.text_form.specs.SaidLines.{AreSaid}
use Rattle.text_form.proofs.FoldLaws.{text_state-ended, text_state-Ok}
use Rattle.sim_text.specs.declared.faults.SimFault.TheVariants.{BadLine, Name}
use Rattle.sim_text.specs.LineForms.{words_say, begins_with_bar, header_words_say}
use Rattle.sim_text.specs.SimTexts.{nothing_yet, with_line, with_header, sim_in, fet_said, cap_said, alias_said, IsSimText}
use Rattle.sim_text.proofs.WrittenLines.{has_name, says-further}

-- no line behind the first says a header
abbrev IsFurther : SimLine → Type 0
IsFurther (Header name) = ⊥
IsFurther _ = Unit {0}

abbrev SaysFurther : Result SimLine SimFault → Type 0
SaysFurther (Ok said) = IsFurther said
SaysFurther (Err fault) = Unit {0}

further_fet : (letter : Result ℕ SimFault) (gate source drain : Result (List ℕ) SimFault) (numbers : Result (List ℤ) SimFault)
    → SaysFurther (and_then letter (λ letter. and_then gate (λ gate. and_then source (λ source. and_then drain (λ drain. and_then numbers (λ numbers.
    Ok (Fet (record { letter = letter; gate = gate; source = source; drain = drain; numbers = numbers }))))))))
further_fet (Ok letter) (Ok gate) (Ok source) (Ok drain) (Ok numbers) = tt
further_fet _ _ _ _ _ = tt

further_cap : (key second : Bool) (node : Result (List ℕ) SimFault) (cap : Result ℤ SimFault)
    → SaysFurther (cond key (and_then node (λ node. cond second (and_then cap (λ cap. Ok (Cap node cap))) (Err BadLine))) (Err BadLine))
further_cap true false (Ok node) cap = tt
further_cap true true (Ok node) (Ok cap) = tt
further_cap _ _ _ _ = tt

further_alias : (key : Bool) (node alias : Result (List ℕ) SimFault)
    → SaysFurther (cond key (and_then node (λ node. and_then alias (λ alias. Ok (Alias node alias)))) (Err BadLine))
further_alias true (Ok node) (Ok alias) = tt
further_alias _ _ _ = tt

further_words : (words : List (List ℕ)) → SaysFurther (words_say words)
further_words (a ∷ b ∷ c ∷ []) = further_alias (bytes_eq a (codes "=")) (name_in b) (name_in c)
further_words (a ∷ b ∷ c ∷ d ∷ []) = further_cap (bytes_eq a (codes "C")) (bytes_eq c (codes "GND!")) (name_in b) (cap_in d)
further_words (a ∷ b ∷ c ∷ d ∷ e ∷ f ∷ g ∷ h ∷ []) = further_fet (letter_in a) (name_in b) (name_in c) (name_in d) (four_numbers_in e f g h)
further_words _ = tt

further_line : (bar : Bool) (words : List (List ℕ)) → SaysFurther (cond bar (Ok Nothing) (words_say words))
further_line true words = tt
further_line false words = further_words words

further_said : (k : ℕ) (line : List ℕ) (said : SimLine) → 2 ≤ k → says k line ≡ Ok said → IsFurther said
further_said k line said above is = subst SaysFurther (sym (says-further k line above) ∙ is) (further_line (begins_with_bar line) (words_of line))

all_further : (k : ℕ) (lines : List (List ℕ)) (said : List SimLine) → 2 ≤ k → AreSaid says k lines said → AllByRecursion IsFurther said
all_further k [] [] above are = tt
all_further k [] (x ∷ said) above are = absurd are
all_further k (line ∷ lines) [] above are = absurd are
all_further k (line ∷ lines) (x ∷ said) above are = (further_said k line x above are.0, all_further (k + 1) lines said (omega arith) are.1)

-- the first line says a header with a name
abbrev IsHeader : SimLine → Type 0
IsHeader (Header name) = is_sim_name name ≡ true
IsHeader _ = ⊥

abbrev SaysHeader : Result SimLine SimFault → Type 0
SaysHeader (Ok said) = IsHeader said
SaysHeader (Err fault) = Unit {0}

header_by_name : (name : List ℕ) (is_name ends : Bool) → is_sim_name name ≡ is_name
    → SaysHeader (and_then (cond is_name (Ok name) (Err Name)) (λ (n : List ℕ). cond ends (Ok (Header n)) (Err NoHeader)))
header_by_name name true true is = is
header_by_name name true false is = tt
header_by_name name false ends is = tt

header_by_form : (begins : Bool) (name : List ℕ) (ends : Bool)
    → SaysHeader (cond begins (and_then (name_in name) (λ (n : List ℕ). cond ends (Ok (Header n)) (Err NoHeader))) (Err NoHeader))
header_by_form true name ends = header_by_name name (is_sim_name name) ends refl
header_by_form false name ends = tt

header_words : (words : List (List ℕ)) → SaysHeader (header_words_say words)
header_words (a ∷ b ∷ c ∷ d ∷ e ∷ f ∷ g ∷ []) =
    header_by_form (bytes_eq a (codes "|") && bytes_eq b (codes "units:") && bytes_eq c (codes "1") && bytes_eq d (codes "tech:")) e
    (bytes_eq f (codes "format:") && bytes_eq g (codes "MIT"))
header_words _ = tt

header_line : (units : Bool) (words : List (List ℕ)) → SaysHeader (cond units (header_words_say words) (Err NoHeader))
header_line true words = header_words words
header_line false words = tt

first_said : (line : List ℕ) (said : SimLine) → says 1 line ≡ Ok said → IsHeader said
first_said line said is = subst SaysHeader is (header_line (begins_with_units line) (words_of line))

-- what further lines add
fets_of : (sim : SimFile) (said : List SimLine) → (fold with_line sim said).fets ≡ sim.fets ++ filter_map fet_said said
fets_of sim [] = sym (append-nil sim.fets)
fets_of sim (Fet fet ∷ said) = fets_of (with_line sim (Fet fet)) said ∙ append_assoc sim.fets (fet ∷ []) (filter_map fet_said said)
fets_of sim (one ∷ said) = fets_of (with_line sim one) said

caps_of : (sim : SimFile) (said : List SimLine) → (fold with_line sim said).caps ≡ sim.caps ++ filter_map cap_said said
caps_of sim [] = sym (append-nil sim.caps)
caps_of sim (Cap node cap ∷ said) = caps_of (with_line sim (Cap node cap)) said ∙ append_assoc sim.caps ((node, cap) ∷ []) (filter_map cap_said said)
caps_of sim (one ∷ said) = caps_of (with_line sim one) said

aliases_of : (sim : SimFile) (said : List SimLine) → (fold with_line sim said).aliases ≡ sim.aliases ++ filter_map alias_said said
aliases_of sim [] = sym (append-nil sim.aliases)
aliases_of sim (Alias node alias ∷ said) =
    aliases_of (with_line sim (Alias node alias)) said ∙ append_assoc sim.aliases ((node, alias) ∷ []) (filter_map alias_said said)
aliases_of sim (one ∷ said) = aliases_of (with_line sim one) said

tech_of : (sim : SimFile) (said : List SimLine) → AllByRecursion IsFurther said → (fold with_line sim said).tech ≡ sim.tech
tech_of sim [] all = refl
tech_of sim (Header name ∷ said) all = absurd all.0
tech_of sim (one ∷ said) all = tech_of (with_line sim one) said all.1

-- a text with a first line has a technology's name
pub tech_said : (line : List ℕ) (lines : List (List ℕ)) (said : List SimLine)
    → AreSaid says 1 (line ∷ lines) said → (length (fold with_line nothing_yet said).tech == 0) ≡ false
tech_said line lines [] are = absurd are
tech_said line lines (Header name ∷ said) are =
    ap (λ (n : List ℕ). length n == 0) (tech_of (record nothing_yet { tech = name }) said (all_further 2 lines said (omega arith) are.1))
    ∙ has_name name (first_said line (Header name) are.0)
tech_said line lines (one ∷ said) are = absurd (first_said line one are.0)

abbrev circuit : List ℕ → List SimFet → List (List ℕ × ℤ) → List (List ℕ × List ℕ) → SimFile
circuit tech fets caps aliases = record { tech = tech; fets = fets; caps = caps; aliases = aliases }

same_circuit : (a b : SimFile) → a.tech ≡ b.tech → a.fets ≡ b.fets → a.caps ≡ b.caps → a.aliases ≡ b.aliases → a ≡ b
same_circuit a b tech fets caps aliases =
    ap (λ (x : List ℕ). circuit x a.fets a.caps a.aliases) tech
    ∙ (ap (λ (x : List SimFet). circuit b.tech x a.caps a.aliases) fets
    ∙ (ap (λ (x : List (List ℕ × ℤ)). circuit b.tech b.fets x a.aliases) caps
    ∙ ap (λ (x : List (List ℕ × List ℕ)). circuit b.tech b.fets b.caps x) aliases))

-- lines that spell a circuit are read as it
spelled_read : (lines : List (List ℕ)) (sim : SimFile) → IsSimText lines sim → text_state (saying says with_line) with_header nothing_yet lines ≡ Ok sim
spelled_read [] sim is = absurd is.lines_are
spelled_read (line ∷ lines) sim is =
    let start : SimFile = record nothing_yet { tech = sim.tech } in
    let same : fold with_line start is.said ≡ sim =
    same_circuit (fold with_line start is.said) sim (tech_of start is.said (all_further 2 lines is.said (omega arith) is.lines_are.1))
    (fets_of start is.said ∙ sym is.fets_are) (caps_of start is.said ∙ sym is.caps_are) (aliases_of start is.said ∙ sym is.aliases_are) in
    let read : first_fault_or (saying says with_line) 1 nothing_yet (line ∷ lines) ≡ Ok sim =
    read_said says with_line 1 nothing_yet (line ∷ lines) (Header sim.tech ∷ is.said) is.lines_are ∙ ap Ok same in
    let named = has_name sim.tech (first_said line (Header sim.tech) is.lines_are.0) in
    text_state-ended (saying says with_line) with_header nothing_yet (line ∷ lines) sim read
    ∙ ap (λ (b : Bool). ended_at (last_number (line ∷ lines)) (cond b (Err NoHeader) (Ok sim))) named

-- and back
end_of : (empty : Bool) (state sim : SimFile) → cond empty (Err NoHeader) (Ok state) ≡ Ok sim → (empty ≡ false) × (state ≡ sim)
end_of true state sim e = absurd (let no : ⊥ = cc in no)
end_of false state sim e = (refl, (let is : state ≡ sim = cc in is))

from_said : (lines : List (List ℕ)) (said : List SimLine) (sim : SimFile)
    → AreSaid says 1 lines said → fold with_line nothing_yet said ≡ sim → (length sim.tech == 0) ≡ false → IsSimText lines sim
from_said [] [] sim are e some = let empty : true ≡ (length sim.tech == 0) = ap (λ (s : SimFile). length s.tech == 0) e in absurd (let no : ⊥ = cc in no)
from_said [] (x ∷ said) sim are e some = absurd are
from_said (line ∷ lines) [] sim are e some = absurd are
from_said (line ∷ lines) (Header name ∷ said) sim are e some =
    let start : SimFile = record nothing_yet { tech = name } in
    let tech : name ≡ sim.tech = sym (tech_of start said (all_further 2 lines said (omega arith) are.1)) ∙ ap (λ (s : SimFile). s.tech) e in
    record {
      said = said;
      lines_are = subst (λ (n : List ℕ). AreSaid says 1 (line ∷ lines) (Header n ∷ said)) tech are;
      fets_are = sym (ap (λ (s : SimFile). s.fets) e) ∙ fets_of start said;
      caps_are = sym (ap (λ (s : SimFile). s.caps) e) ∙ caps_of start said;
      aliases_are = sym (ap (λ (s : SimFile). s.aliases) e) ∙ aliases_of start said;
    }
from_said (line ∷ lines) (one ∷ said) sim are e some = absurd (first_said line one are.0)

read_spelled : (lines : List (List ℕ)) (sim : SimFile) → text_state (saying says with_line) with_header nothing_yet lines ≡ Ok sim → IsSimText lines sim
read_spelled lines sim e =
    let p = text_state-Ok (saying says with_line) with_header nothing_yet lines sim e in
    let end = end_of (length p.0.tech == 0) p.0 sim p.2 in
    let told = said_of says with_line 1 nothing_yet lines p.0 p.1 in
    from_said lines told.0 sim told.1 (told.2 ∙ end.1) (sym (ap (λ (s : SimFile). length s.tech == 0) end.1) ∙ end.0)

pub sim_in-spelled : (text : List ℕ) (sim : SimFile) → (sim_in text ≡ Ok sim) ↔ IsSimText (lines_of text) sim
unfolding sim_in
sim_in-spelled text sim = (read_spelled (lines_of text) sim, spelled_read (lines_of text) sim)
