-- Why a line is no command.
use Rattle.std.specs.Prelude.{ℕ, List, [], codes}
use Rattle.line_answers.specs.declared.refusals.Refusal.{Refusal}
use Rattle.line_answers.specs.Refusals.{of_inside}
use Rattle.script_lines.specs.declared.faults.LineFault.{LineFault}
use Rattle.script_lines.specs.declared.faults.LineFault.TheVariants as line

-- Want of memory refuses no line, but ends the run.
abbrev pub line_fault_text : LineFault → List ℕ
line_fault_text line.BadWord = codes "E1 bad word"
line_fault_text line.BadForm = codes "E2 bad form"
line_fault_text line.NumberRange = codes "E3 number out of range"
line_fault_text line.Memory = []

abbrev pub line_refusal : LineFault → Refusal
line_refusal fault = of_inside (line_fault_text fault)
