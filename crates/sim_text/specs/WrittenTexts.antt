-- Sim texts as they are written.
use Rattle.std.specs.Prelude.{◌≡◌, ◌<◌, ℕ, ℤ, List, [], ◌∷◌, ◌++◌, length, map, flat_map, codes}
use Rattle.text_scan.specs.Decimal.{decimal}
use Rattle.text_scan.specs.Written.{line_of, text_of}
use Rattle.sim_text.specs.declared.faults.SimFault.{SimFault}
use Rattle.sim_text.specs.declared.faults.SimFault.TheVariants.{TooLong}
use Rattle.sim_text.specs.declared.files.SimFile.{SimFile}
use Rattle.sim_text.specs.declared.files.SimLine.{SimLine}
use Rattle.sim_text.specs.declared.files.SimLine.TheVariants.{Header, Fet, Cap, Alias, Nothing}
use Rattle.sim_text.specs.declared.limits.TheConstants.{LONGEST_TEXT}

-- the words of a line that says this
abbrev pub words_saying : SimLine → List (List ℕ)
words_saying (Header name) = codes "|" ∷ codes "units:" ∷ codes "1" ∷ codes "tech:" ∷ name ∷ codes "format:" ∷ codes "MIT" ∷ []
words_saying (Fet fet) = (fet.letter ∷ []) ∷ fet.gate ∷ fet.source ∷ fet.drain ∷ map decimal fet.numbers
words_saying (Cap node cap) = codes "C" ∷ node ∷ codes "GND!" ∷ decimal cap ∷ []
words_saying (Alias node alias) = codes "=" ∷ node ∷ alias ∷ []
words_saying Nothing = []

-- the line that says this
abbrev pub line_saying : SimLine → List ℕ
line_saying said = line_of (words_saying said)

abbrev pub saying_cap : List ℕ × ℤ → SimLine
saying_cap cap = Cap cap.0 cap.1

abbrev pub saying_alias : List ℕ × List ℕ → SimLine
saying_alias pair = Alias pair.0 pair.1

-- what the lines behind the first say: the transistors, then the capacitances, then the aliases
abbrev pub body_of : SimFile → List SimLine
body_of sim = map Fet sim.fets ++ (map saying_cap sim.caps ++ map saying_alias sim.aliases)

-- the text of a circuit
unfoldable pub sim_text : SimFile → List ℕ
sim_text sim = text_of (map line_saying (Header sim.tech ∷ body_of sim))

-- a line with its line feed
abbrev pub whole_line_saying : SimLine → List ℕ
whole_line_saying said = line_saying said ++ 10 ∷ []

-- the lines of some records, each of which says something
abbrev pub lines_saying : {X : Type 0} → (X → SimLine) → List X → List ℕ
lines_saying said records = flat_map (λ x. whole_line_saying (said x)) records

-- numbers, each behind a blank
abbrev pub numbers_behind_blanks : List ℤ → List ℕ
numbers_behind_blanks numbers = flat_map (λ z. 32 ∷ decimal z) numbers

-- the fault of a text that is longer than one may be
abbrev pub IsTooLong : SimFault → List ℕ → Type 0
IsTooLong fault text = (fault ≡ TooLong) × (LONGEST_TEXT < length text)
