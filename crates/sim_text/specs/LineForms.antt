-- What a line of a sim text says by itself, or the first fault in it.
--
--     | units: 1 tech: NAME format: MIT     the first line
--     LETTER GATE SOURCE DRAIN L W X Y      a transistor
--     C NODE GND! CAP                       a capacitance
--     = NODE ALIAS                          an alias
--
-- A further line that begins with `|`, or is blank, says nothing. How many words a line has tells its form, and then the first faulty word
-- counts.
use Rattle.std.specs.Prelude.{◌==◌, ◌&&◌, ℕ, ℤ, Bool, false, if◌then◌else◌, List, [], ◌∷◌, Result, Ok, Err, codes, nat_eq}
use Rattle.std.specs.List.{starts_with}
use Rattle.std.specs.Str.{bytes_eq}
use Rattle.text_scan.specs.Words.{words_of}
use Rattle.text_form.specs.SaidLines.{and_then}
use Rattle.sim_text.specs.declared.faults.SimFault.{SimFault}
use Rattle.sim_text.specs.declared.faults.SimFault.TheVariants.{Header as NoHeader, BadLine}
use Rattle.sim_text.specs.declared.files.SimLine.{SimLine}
use Rattle.sim_text.specs.declared.files.SimLine.TheVariants.{Header, Fet, Cap, Alias, Nothing}
use Rattle.sim_text.specs.Parts.{name_in, letter_in, cap_in, four_numbers_in}

-- a transistor, where its letter, its names and its numbers are such
abbrev pub fet_line : List ℕ → List ℕ → List ℕ → List ℕ → Result (List ℤ) SimFault → Result SimLine SimFault
fet_line letter gate source drain numbers =
    and_then (letter_in letter) (λ letter.
    and_then (name_in gate) (λ gate.
    and_then (name_in source) (λ source.
    and_then (name_in drain) (λ drain.
    and_then numbers (λ numbers.
    Ok (Fet (record { letter = letter; gate = gate; source = source; drain = drain; numbers = numbers })))))))

-- a capacitance, behind its first word
abbrev pub cap_of_node : List ℕ → List ℕ → List ℕ → Result SimLine SimFault
cap_of_node node second cap =
    and_then (name_in node) (λ node. if bytes_eq second (codes "GND!") then and_then (cap_in cap) (λ cap. Ok (Cap node cap)) else Err BadLine)

abbrev pub cap_line : List ℕ → List ℕ → List ℕ → List ℕ → Result SimLine SimFault
cap_line key node second cap = if bytes_eq key (codes "C") then cap_of_node node second cap else Err BadLine

abbrev pub alias_line : List ℕ → List ℕ → List ℕ → Result SimLine SimFault
alias_line key node alias =
    if bytes_eq key (codes "=") then and_then (name_in node) (λ node. and_then (name_in alias) (λ alias. Ok (Alias node alias))) else Err BadLine

-- what the words of a further line say
abbrev pub words_say : List (List ℕ) → Result SimLine SimFault
words_say [] = Ok Nothing
words_say (key ∷ node ∷ alias ∷ []) = alias_line key node alias
words_say (key ∷ node ∷ second ∷ cap ∷ []) = cap_line key node second cap
words_say (letter ∷ gate ∷ source ∷ drain ∷ l ∷ w ∷ x ∷ y ∷ []) = fet_line letter gate source drain (four_numbers_in l w x y)
words_say _ = Err BadLine

abbrev pub begins_with_bar : List ℕ → Bool
begins_with_bar [] = false
begins_with_bar (byte ∷ bytes) = byte == 124

-- what a line behind the first says
abbrev pub further_line_says : List ℕ → Result SimLine SimFault
further_line_says line = if begins_with_bar line then Ok Nothing else words_say (words_of line)

-- what the words of the first line say
abbrev pub header_words_say : List (List ℕ) → Result SimLine SimFault
header_words_say (bar ∷ units ∷ one ∷ tech ∷ name ∷ format ∷ mit ∷ []) =
    if bytes_eq bar (codes "|") && bytes_eq units (codes "units:") && bytes_eq one (codes "1") && bytes_eq tech (codes "tech:")
    then and_then (name_in name) (λ name. if bytes_eq format (codes "format:") && bytes_eq mit (codes "MIT") then Ok (Header name) else Err NoHeader)
    else Err NoHeader
header_words_say _ = Err NoHeader

abbrev pub begins_with_units : List ℕ → Bool
begins_with_units line = starts_with nat_eq line (codes "| units:")

-- What the first line says: its first bytes have one blank before the units, and between its other words there may be more.
abbrev pub first_line_says : List ℕ → Result SimLine SimFault
first_line_says line = if begins_with_units line then header_words_say (words_of line) else Err NoHeader

-- what the line of this number says
abbrev pub says : ℕ → List ℕ → Result SimLine SimFault
says number line = if number == 1 then first_line_says line else further_line_says line
