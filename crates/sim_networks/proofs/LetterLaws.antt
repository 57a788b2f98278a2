-- The letters of transistors in a sim text.
use Rattle.sim_networks.proofs.Common.{◌≡◌, ◌+◌, ◌≤◌, ℕ, ℤ, Bool, true, false, cond, List, [], ◌∷◌, inl, inr, refl, sym, subst, ◌∙◌, arith, All}
use Rattle.sim_networks.proofs.Common.{bytes_eq, SimFet, SimFile, In, All-from_In}
use Rattle.std.proofs.Common.{Result, Ok, Err}
use Rattle.std.specs.Prelude.{filter_map, codes}
use Rattle.text_scan.specs.Lines.{lines_of}
use Rattle.text_scan.specs.Words.{words_of}
use Rattle.sim_text.specs.TextForm.SaidLines.{and_then, AreSaid}
use Rattle.sim_text.specs.declared.faults.SimFault.{SimFault}
use Rattle.sim_text.specs.declared.faults.SimFault.TheVariants.{BadLine, Letter}
use Rattle.sim_text.specs.declared.files.SimLine.{SimLine}
use Rattle.sim_text.specs.declared.files.SimLine.TheVariants.{Header, Fet, Cap, Alias, Nothing}
use Rattle.sim_text.specs.Parts.{is_letter, letter_in, name_in, cap_in, four_numbers_in}
use Rattle.sim_text.specs.LineForms.{words_say, begins_with_bar, says}
use Rattle.sim_text.specs.SimTexts.{sim_in, fet_said, IsSimText}
use Rattle.sim_text.proofs.SpelledTexts.{sim_in-spelled}
use Rattle.sim_text.proofs.WrittenLines.{says-further}
use Rattle.sim_networks.specs.SimNetworks.{HasLetter}

-- a transistor that a line says has a letter that makes a switch
abbrev IsLettered : SimLine → Type 0
IsLettered (Header name) = Unit {0}
IsLettered (Fet fet) = HasLetter fet
IsLettered (Cap node cap) = Unit {0}
IsLettered (Alias node alias) = Unit {0}
IsLettered Nothing = Unit {0}

abbrev SaysLettered : Result SimLine SimFault → Type 0
SaysLettered (Ok said) = IsLettered said
SaysLettered (Err fault) = Unit {0}

abbrev IsLetterRead : Result ℕ SimFault → Type 0
IsLetterRead (Ok letter) = is_letter letter ≡ true
IsLetterRead (Err fault) = Unit {0}

letter_test : (byte : ℕ) (is : Bool) → is_letter byte ≡ is → IsLetterRead (cond is (Ok byte) (Err Letter))
letter_test byte true is = is
letter_test byte false is = tt

letter_read : (word : List ℕ) → IsLetterRead (letter_in word)
letter_read [] = tt
letter_read (byte ∷ []) = letter_test byte (is_letter byte) refl
letter_read (byte ∷ other ∷ more) = tt

lettered_fet : (letter : Result ℕ SimFault) (gate source drain : Result (List ℕ) SimFault) (numbers : Result (List ℤ) SimFault)
    → IsLetterRead letter
    → SaysLettered (and_then letter (λ letter. and_then gate (λ gate. and_then source (λ source. and_then drain (λ drain.
    and_then numbers (λ numbers.
    Ok (Fet (record { letter = letter; gate = gate; source = source; drain = drain; numbers = numbers }))))))))
lettered_fet (Err fault) gate source drain numbers is = tt
lettered_fet (Ok letter) (Err fault) source drain numbers is = tt
lettered_fet (Ok letter) (Ok gate) (Err fault) drain numbers is = tt
lettered_fet (Ok letter) (Ok gate) (Ok source) (Err fault) numbers is = tt
lettered_fet (Ok letter) (Ok gate) (Ok source) (Ok drain) (Err fault) is = tt
lettered_fet (Ok letter) (Ok gate) (Ok source) (Ok drain) (Ok numbers) is = is

lettered_cap : (key second : Bool) (node : Result (List ℕ) SimFault) (cap : Result ℤ SimFault)
    → SaysLettered (cond key (and_then node (λ node. cond second (and_then cap (λ cap. Ok (Cap node cap))) (Err BadLine))) (Err BadLine))
lettered_cap false second node cap = tt
lettered_cap true second (Err fault) cap = tt
lettered_cap true false (Ok node) cap = tt
lettered_cap true true (Ok node) (Err fault) = tt
lettered_cap true true (Ok node) (Ok cap) = tt

lettered_alias : (key : Bool) (node alias : Result (List ℕ) SimFault)
    → SaysLettered (cond key (and_then node (λ node. and_then alias (λ alias. Ok (Alias node alias)))) (Err BadLine))
lettered_alias false node alias = tt
lettered_alias true (Err fault) alias = tt
lettered_alias true (Ok node) (Err fault) = tt
lettered_alias true (Ok node) (Ok alias) = tt

lettered_words : (words : List (List ℕ)) → SaysLettered (words_say words)
lettered_words [] = tt
lettered_words (a ∷ []) = tt
lettered_words (a ∷ b ∷ []) = tt
lettered_words (a ∷ b ∷ c ∷ []) = lettered_alias (bytes_eq a (codes "=")) (name_in b) (name_in c)
lettered_words (a ∷ b ∷ c ∷ d ∷ []) = lettered_cap (bytes_eq a (codes "C")) (bytes_eq c (codes "GND!")) (name_in b) (cap_in d)
lettered_words (a ∷ b ∷ c ∷ d ∷ e ∷ []) = tt
lettered_words (a ∷ b ∷ c ∷ d ∷ e ∷ f ∷ []) = tt
lettered_words (a ∷ b ∷ c ∷ d ∷ e ∷ f ∷ g ∷ []) = tt
lettered_words (a ∷ b ∷ c ∷ d ∷ e ∷ f ∷ g ∷ h ∷ []) =
    lettered_fet (letter_in a) (name_in b) (name_in c) (name_in d) (four_numbers_in e f g h) (letter_read a)
lettered_words (a ∷ b ∷ c ∷ d ∷ e ∷ f ∷ g ∷ h ∷ i ∷ more) = tt

lettered_line : (bar : Bool) (words : List (List ℕ)) → SaysLettered (cond bar (Ok Nothing) (words_say words))
lettered_line true words = tt
lettered_line false words = lettered_words words

lettered_said : (k : ℕ) (line : List ℕ) (said : SimLine) → 2 ≤ k → says k line ≡ Ok said → IsLettered said
lettered_said k line said above is =
    subst SaysLettered (sym (says-further k line above) ∙ is) (lettered_line (begins_with_bar line) (words_of line))

lettered_fets : (k : ℕ) (lines : List (List ℕ)) (said : List SimLine) → 2 ≤ k → AreSaid says k lines said → (fet : SimFet)
    → In fet (filter_map fet_said said)
    → HasLetter fet
lettered_fets k [] [] above are fet here = absurd here
lettered_fets k [] (one ∷ said) above are fet here = absurd are
lettered_fets k (line ∷ lines) [] above are fet here = absurd are
lettered_fets k (line ∷ lines) (Header name ∷ said) above are fet here = lettered_fets (k + 1) lines said (omega arith) are.1 fet here
lettered_fets k (line ∷ lines) (Fet one ∷ said) above are fet (inl same) = subst HasLetter same (lettered_said k line (Fet one) above are.0)
lettered_fets k (line ∷ lines) (Fet one ∷ said) above are fet (inr here) = lettered_fets (k + 1) lines said (omega arith) are.1 fet here
lettered_fets k (line ∷ lines) (Cap node cap ∷ said) above are fet here = lettered_fets (k + 1) lines said (omega arith) are.1 fet here
lettered_fets k (line ∷ lines) (Alias node alias ∷ said) above are fet here = lettered_fets (k + 1) lines said (omega arith) are.1 fet here
lettered_fets k (line ∷ lines) (Nothing ∷ said) above are fet here = lettered_fets (k + 1) lines said (omega arith) are.1 fet here

lettered_text : (lines : List (List ℕ)) (sim : SimFile) → IsSimText lines sim → (fet : SimFet) → In fet sim.fets → HasLetter fet
lettered_text [] sim is fet here = absurd is.lines_are
lettered_text (line ∷ lines) sim is fet here =
    lettered_fets 2 lines is.said (omega arith) is.lines_are.1 fet (subst (λ (fets : List SimFet). In fet fets) is.fets_are here)

-- each transistor of a text has such a letter
pub read_letters : (text : List ℕ) (sim : SimFile) → sim_in text ≡ Ok sim → All HasLetter sim.fets
read_letters text sim read = All-from_In HasLetter sim.fets (lettered_text (lines_of text) sim ((sim_in-spelled text sim).0 read))
