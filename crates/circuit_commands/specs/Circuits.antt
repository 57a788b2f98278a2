-- The files of circuits, and what is told of them.
use Rattle.std.specs.Prelude.{◌≡◌, ◌⊎◌, ◌<◌, ◌≤◌, ℕ, pos, List, [], ◌∷◌, ◌++◌, length, nat_lt, if◌then◌else◌, codes}
use Rattle.std.specs.List.{flat_map}
use Rattle.text_scan.specs.Decimal.{decimal}
use Rattle.session_model.specs.declared.answer.Store.{Store}
use Rattle.session_model.specs.declared.report.ReportLine.{ReportLine}
use Rattle.line_answers.specs.LineEffects.{reply}
use Rattle.line_answers.specs.Refusals.{refusal_line, too_many}
use Rattle.ext_model.specs.declared.circuits.Circuit.{Circuit}
use Rattle.ext_model.specs.declared.records.FetRec.{FetRec}
use Rattle.ext_text.specs.declared.limits.TheConstants.{LONGEST_TEXT as LONGEST_FLAT_TEXT}
use Rattle.ext_text.specs.WrittenTexts.{flat_text}
use Rattle.sim_text.specs.declared.limits.TheConstants.{LONGEST_TEXT as LONGEST_SIM_TEXT}
use Rattle.sim_text.specs.WrittenTexts.{sim_text}
use Rattle.sim_records.specs.declared.limits.TheConstants.{MOST_SWITCHES}
use Rattle.sim_records.specs.SimRecords.{sim_of}
use Rattle.circuit_commands.specs.declared.circuits.CircuitFile.{CircuitFile}
use Rattle.circuit_commands.specs.declared.circuits.CircuitFile.TheVariants.{Flat, Sim}
use Rattle.circuit_commands.specs.declared.limits.Limit.TheVariants.{Switches, Text}
use Rattle.circuit_commands.specs.declared.circuits.Written.{Written}
use Rattle.circuit_commands.specs.declared.circuits.Written.TheVariants.{Stored, Passed}
use Rattle.circuit_commands.specs.Refusals.{limit_word}

-- what is told of a file: its command and cell, and how many nodes and other things it has
abbrev pub counts_text : List ℕ → List ℕ → ℕ → ℕ → List ℕ → List ℕ
counts_text command cell nodes others what =
    command ++ cell ++ codes ": " ++ decimal (pos nodes) ++ codes " nodes " ++ decimal (pos others) ++ what

-- `flat CELL: N nodes F transistors`
abbrev pub flat_reply : List ℕ → Circuit → List ℕ
flat_reply cell circuit = counts_text (codes "flat ") cell (length circuit.nodes) (length circuit.fets) (codes " transistors")

-- the flat file of a cell
abbrev pub flat_store : List ℕ → Circuit → Store
flat_store cell circuit = record { name = cell ++ codes ".flat.ext"; bytes = flat_text circuit }

-- what `flat` writes of a circuit: its flat file, unless the text is too long
abbrev pub IsFlatWritten : List ℕ → Circuit → Written → Type 0
IsFlatWritten cell circuit (Stored lines store) =
    (length (flat_text circuit) ≤ LONGEST_FLAT_TEXT) × (lines ≡ reply (flat_reply cell circuit) ∷ []) × (store ≡ flat_store cell circuit)
IsFlatWritten cell circuit (Passed limit) = (limit ≡ Text) × (LONGEST_FLAT_TEXT < length (flat_text circuit))

-- `sim CELL: N nodes S switches`
abbrev pub sim_reply : List ℕ → Circuit → List ℕ
sim_reply cell circuit = counts_text (codes "sim ") cell (length circuit.nodes) (length (sim_of circuit).fets) (codes " switches")

-- `no terminal GATE`
abbrev pub bare_line : FetRec → ReportLine
bare_line fet = reply (codes "no terminal " ++ fet.gate.node)

-- the line of a transistor, where it has no terminals
abbrev pub bare_of : FetRec → List ReportLine
bare_of fet = if nat_lt 0 (length fet.terminals) then [] else bare_line fet ∷ []

-- the lines of transistors without terminals
abbrev pub bare_lines : List FetRec → List ReportLine
bare_lines fets = flat_map bare_of fets

-- the sim file of a cell
abbrev pub sim_store : List ℕ → Circuit → Store
sim_store cell circuit = record { name = cell ++ codes ".sim"; bytes = sim_text (sim_of circuit) }

-- what `sim` and `ext2sim` write of a circuit: its sim file, unless there are too many switches or the text is too long
abbrev pub IsSimWritten : List ℕ → Circuit → Written → Type 0
IsSimWritten cell circuit (Stored lines store) =
    (length (sim_of circuit).fets ≤ MOST_SWITCHES) × (length (sim_text (sim_of circuit)) ≤ LONGEST_SIM_TEXT)
    × (lines ≡ bare_lines circuit.fets ++ reply (sim_reply cell circuit) ∷ []) × (store ≡ sim_store cell circuit)
IsSimWritten cell circuit (Passed limit) =
    ((limit ≡ Switches) × (MOST_SWITCHES < length (sim_of circuit).fets))
    ⊎ ((limit ≡ Text) × (length (sim_of circuit).fets ≤ MOST_SWITCHES) × (LONGEST_SIM_TEXT < length (sim_text (sim_of circuit))))

-- what a command writes of a circuit into its file
abbrev pub IsWritten : CircuitFile → List ℕ → Circuit → Written → Type 0
IsWritten Flat cell circuit written = IsFlatWritten cell circuit written
IsWritten Sim cell circuit written = IsSimWritten cell circuit written

-- the lines that a text or a limit adds
abbrev pub lines_of : ℕ → Written → List ReportLine
lines_of number (Stored lines store) = lines
lines_of number (Passed limit) = refusal_line number (too_many (limit_word limit)) ∷ []

-- the files that it stores
abbrev pub stores_of : Written → List Store
stores_of (Stored lines store) = store ∷ []
stores_of (Passed limit) = []
