-- What a CIF text is read as, or its first fault.
use Rattle.std.specs.Prelude.{ℕ, Bool, if◌then◌else◌, List, Option, Some, None, Result, Ok, Err}
use Rattle.text_scan.specs.Lines.{lines_of}
use Rattle.text_form.specs.declared.reading.At.{At}
use Rattle.text_form.specs.Folds.{last_number, finished}
use Rattle.text_form.specs.Parts.{first_faulty_part_or}
use Rattle.cif_forms.specs.Commands.{says}
use Rattle.cif_forms.specs.Cutting.{CommandText, commands_of, line_of_command, step_on}
use Rattle.cif_model.specs.Cifs.{CifParts}
use Rattle.cif_reading.specs.declared.faults.CifFault.{CifFault}
use Rattle.cif_reading.specs.declared.faults.CifFault.TheVariants.{NoEnd}
use Rattle.cif_reading.specs.Drafts.{Draft, nothing_yet}
use Rattle.cif_reading.specs.Faults.{fault_in}
use Rattle.cif_reading.specs.Additions.{takes}

-- a value, unless there is a fault
abbrev pub unless : {A : Type 0} → Option CifFault → A → Result A CifFault
unless None x = Ok x
unless (Some fault) x = Err fault

-- What a command makes of what was read, which a semicolon ends or not: nothing behind `E`.
abbrev pub step : Draft → List ℕ → Bool → Result Draft CifFault
step draft bytes closed =
    if draft.ended then Ok draft else unless (fault_in draft closed (says bytes)) (takes draft (says bytes))

-- the parts of what was read
abbrev pub parts_of : Draft → CifParts
parts_of draft = record { layers = draft.layers; symbols = draft.symbols; top = draft.top }

-- what the end of the text gives, which is faulty where no `E` stood before
abbrev pub finish : Draft → Result CifParts CifFault
finish draft = if draft.ended then Ok (parts_of draft) else Err NoEnd

-- what is read once these commands stand behind what was read, or the first faulty one
abbrev pub read_from : Draft → List CommandText → Result Draft (At CifFault)
read_from draft commands = first_faulty_part_or line_of_command (step_on step) draft commands

abbrev pub read_of : List ℕ → Result Draft (At CifFault)
read_of text = read_from nothing_yet (commands_of text)

-- What the text is read as; or the line and the fault of its first faulty command; or that it does not end, which is told at its last line.
unfoldable pub cif_in : List ℕ → Result CifParts (At CifFault)
cif_in text = finished finish (last_number (lines_of text)) (read_of text)
