-- The circuit that a sim text spells.
use Rattle.std.specs.Prelude.{◌≡◌, ◌==◌, ◌⊎◌, ◌+◌, ℕ, ℤ, if◌then◌else◌, List, [], ◌∷◌, ◌++◌, length, filter_map, Option, Some, None, Result, Ok, Err}
use Rattle.text_scan.specs.Lines.{lines_of}
use Rattle.text_form.specs.declared.reading.At.{At}
use Rattle.text_form.specs.Folds.{fault_at, text_state}
use Rattle.text_form.specs.SaidLines.{AreSaid, saying}
use Rattle.sim_text.specs.declared.faults.SimFault.{SimFault}
use Rattle.sim_text.specs.declared.faults.SimFault.TheVariants.{Header as NoHeader}
use Rattle.sim_text.specs.declared.files.SimFet.{SimFet}
use Rattle.sim_text.specs.declared.files.SimFile.{SimFile}
use Rattle.sim_text.specs.declared.files.SimLine.{SimLine}
use Rattle.sim_text.specs.declared.files.SimLine.TheVariants.{Header, Fet, Cap, Alias, Nothing}
use Rattle.sim_text.specs.LineForms.{says}

-- the transistor that a line says, if it says one; a capacitance and an alias likewise
abbrev pub fet_said : SimLine → Option SimFet
fet_said (Fet fet) = Some fet
fet_said _ = None

abbrev pub cap_said : SimLine → Option (List ℕ × ℤ)
cap_said (Cap node cap) = Some (node, cap)
cap_said _ = None

abbrev pub alias_said : SimLine → Option (List ℕ × List ℕ)
alias_said (Alias node alias) = Some (node, alias)
alias_said _ = None

-- The lines are a sim text, and spell the circuit: the first is a header with the technology's name, each further one says something, and
-- the circuit has what they say, in their order.
pub record IsSimText (lines : List (List ℕ)) (sim : SimFile) : Type 0 where
  pub said : List SimLine
  pub lines_are : AreSaid says 1 lines (Header sim.tech ∷ said)
  pub fets_are : sim.fets ≡ filter_map fet_said said
  pub caps_are : sim.caps ≡ filter_map cap_said said
  pub aliases_are : sim.aliases ≡ filter_map alias_said said

-- The first faulty line of these: the lines before it say something, and it has the fault. The first of all is line 1.
pub record IsFirstFaultyLine (lines : List (List ℕ)) (at : At SimFault) : Type 0 where
  pub before : List (List ℕ)
  pub line : List ℕ
  pub after : List (List ℕ)
  pub said : List SimLine
  pub lines_are : lines ≡ before ++ line ∷ after
  pub fine : AreSaid says 1 before said
  pub numbered : at.line ≡ 1 + length before
  pub faulty : says (1 + length before) line ≡ Err at.fault

-- The lines are no sim text: they have a first faulty line, or there is none, and so no header on line 1.
abbrev pub IsRefusedText : List (List ℕ) → At SimFault → Type 0
IsRefusedText lines at = IsFirstFaultyLine lines at ⊎ ((lines ≡ []) × (at ≡ fault_at 1 NoHeader))

abbrev pub nothing_yet : SimFile
nothing_yet = record { tech = []; fets = []; caps = []; aliases = [] }

-- the circuit with what a line says
abbrev pub with_line : SimFile → SimLine → SimFile
with_line sim (Header name) = record sim { tech = name }
with_line sim (Fet fet) = record sim { fets = sim.fets ++ fet ∷ [] }
with_line sim (Cap node cap) = record sim { caps = sim.caps ++ (node, cap) ∷ [] }
with_line sim (Alias node alias) = record sim { aliases = sim.aliases ++ (node, alias) ∷ [] }
with_line sim Nothing = sim

-- a text without a line has no header
abbrev pub with_header : SimFile → Result SimFile SimFault
with_header sim = if length sim.tech == 0 then Err NoHeader else Ok sim

-- the circuit of a text, or its first faulty line with that line's first fault
unfoldable pub sim_in : List ℕ → Result SimFile (At SimFault)
sim_in text = text_state (saying says with_line) with_header nothing_yet (lines_of text)
