-- The switches of a transistor.
use Rattle.std.specs.Prelude.{ℕ, ℤ, pos, ◌+ℤ◌, List, [], ◌∷◌, ◌++◌, map}
use Rattle.std.specs.Int.{int_div_euclid, int_max}
use Rattle.ext_model.specs.declared.records.TermRec.{TermRec}
use Rattle.ext_model.specs.declared.records.FetRec.{FetRec}
use Rattle.sim_text.specs.declared.files.SimFet.{SimFet}

-- the letter of a transistor: the first of its name
abbrev pub letter_of : List ℕ → ℕ
letter_of [] = 0
letter_of (byte ∷ bytes) = byte

-- the width of a switch: half of this length, rounded down, and at least 1
abbrev pub width_of : ℤ → ℤ
width_of lengths = int_max (int_div_euclid lengths (pos 2)) (pos 1)

-- its length: the area over the width, rounded down, and at least 1
abbrev pub length_of : ℤ → ℤ → ℤ
length_of area width = int_max (int_div_euclid area width) (pos 1)

-- the switch between two terminals for this length
abbrev pub switch_between : FetRec → TermRec → TermRec → ℤ → SimFet
switch_between fet source drain lengths = record {
  letter = letter_of fet.kind;
  gate = fet.gate.node;
  source = source.node;
  drain = drain.node;
  numbers = length_of fet.area (width_of lengths) ∷ width_of lengths ∷ fet.x ∷ fet.y ∷ [];
}

-- the switches from a terminal to each of some others
abbrev pub switches_from : FetRec → TermRec → List TermRec → List SimFet
switches_from fet source others = map (λ drain. switch_between fet source drain (source.length +ℤ drain.length)) others

-- the switches between each two of the terminals, by the first and then the second
abbrev pub switches_among : FetRec → List TermRec → List SimFet
switches_among fet [] = []
switches_among fet (source ∷ others) = switches_from fet source others ++ switches_among fet others

-- the switches that a transistor with these terminals is: one between each two, and where there is one terminal alone, one from it to itself
abbrev pub switches_with : FetRec → List TermRec → List SimFet
switches_with fet [] = []
switches_with fet (one ∷ []) = switch_between fet one one one.length ∷ []
switches_with fet (one ∷ other ∷ others) = switches_among fet (one ∷ other ∷ others)

abbrev pub switches_of : FetRec → List SimFet
switches_of fet = switches_with fet fet.terminals
