-- Which texts are refused, and where.
use Rattle.std.specs.Prelude.{◌≡◌, ℕ, false, true, List, ◌∷◌, ◌++◌, Some, Ok}
use Rattle.text_scan.specs.Lines.{lines_of}
use Rattle.text_form.specs.declared.reading.At.{At}
use Rattle.text_form.specs.Folds.{fault_at, last_number}
use Rattle.cif_forms.specs.Commands.{says}
use Rattle.cif_forms.specs.Cutting.{CommandText, commands_of}
use Rattle.cif_model.specs.Cifs.{CifParts}
use Rattle.cif_reading.specs.declared.faults.CifFault.{CifFault}
use Rattle.cif_reading.specs.declared.faults.CifFault.TheVariants.{NoEnd}
use Rattle.cif_reading.specs.Drafts.{Draft, nothing_yet}
use Rattle.cif_reading.specs.Faults.{fault_in}
use Rattle.cif_reading.specs.CifTexts.{parts_of, read_from, read_of}

-- The first faulty command of a text: those before it are without fault, none of them is an `E`, and it has this fault where it stands.
pub record IsFirstFaultyCommand (text : List ℕ) (at : At CifFault) : Type 0 where
  pub before : List CommandText
  pub command : CommandText
  pub after : List CommandText
  pub draft : Draft
  pub commands_are : commands_of text ≡ before ++ command ∷ after
  pub fine : read_from nothing_yet before ≡ Ok draft
  pub goes_on : draft.ended ≡ false
  pub placed : at.line ≡ command.line
  pub faulty : fault_in draft command.closed (says command.bytes) ≡ Some at.fault

-- All commands of a text are without fault, and none of them is an `E`. This is told at its last line.
pub record HasNoEnd (text : List ℕ) (at : At CifFault) : Type 0 where
  pub draft : Draft
  pub fine : read_of text ≡ Ok draft
  pub goes_on : draft.ended ≡ false
  pub told : at ≡ fault_at (last_number (lines_of text)) NoEnd

-- All commands of a text up to an `E` are without fault, and say this.
pub record Says (text : List ℕ) (cif : CifParts) : Type 0 where
  pub draft : Draft
  pub fine : read_of text ≡ Ok draft
  pub ended : draft.ended ≡ true
  pub said : parts_of draft ≡ cif
