-- `cifstat f`: tells how many squares the CIF text f.cif gives to each of its layers.
use Rattle.std.specs.Prelude.{◌≡◌, ◌⊎◌, ℕ, ℤ, pos, List, [], ◌∷◌, ◌++◌, length, map, zip, slice_get, Some, Result, Ok, Err, codes}
use Rattle.text_scan.specs.Decimal.{decimal}
use Rattle.text_form.specs.declared.reading.At.{At}
use Rattle.outside_io.specs.Files.{Files}
use Rattle.session_model.specs.declared.fetching.FetchFault.{FetchFault}
use Rattle.session_model.specs.declared.report.ReportLine.{ReportLine}
use Rattle.session_model.specs.Fetches.{text_in}
use Rattle.geo_core.specs.declared.squares.Square.{Square}
use Rattle.geo_core.specs.FiniteSets.Total.{Total}
use Rattle.cif_model.specs.Cifs.{CifParts}
use Rattle.cif_model.specs.Meanings.{IsMeant}
use Rattle.cif_model.specs.Sizes.{size_of}
use Rattle.cif_reading.specs.declared.faults.CifFault.{CifFault}
use Rattle.cif_reading.specs.CifTexts.{cif_in}
use Rattle.cif_expansion.specs.declared.limits.CifLimit.{CifLimit}
use Rattle.cif_expansion.specs.Expansions.{StandsOutside, StaysInRange}
use Rattle.cif_expansion.specs.Limits.{IsFirstPast, IsWithinLimits}
use Rattle.line_answers.specs.LineEffects.{FreeEffect, accepted, refused, reply}
use Rattle.line_answers.specs.Refusals.{file_refusal, out_of_range, too_many}
use Rattle.cif_commands.specs.CommandCif.{cif_file}
use Rattle.cif_commands.specs.Refusals.{cif_limit_word, cif_refusal}

-- ---- what is told

-- the set has so many squares
abbrev pub HasSquares : (Square → Type 0) → ℤ → Type 0
HasSquares S count = Total S (λ square. pos 1) count

-- `layer NAME area A`
abbrev pub layer_line : List ℕ × ℤ → ReportLine
layer_line layer = reply (codes "layer " ++ layer.0 ++ codes " area " ++ decimal layer.1)

-- `cifstat FILE: K layers`
abbrev pub sum_text : List ℕ → ℕ → List ℕ
sum_text name layers = codes "cifstat " ++ name ++ codes ": " ++ decimal (pos layers) ++ codes " layers"

-- a line for each layer, with its name and its area, and then one with how many layers there are
abbrev pub stat_lines : List ℕ → List (List ℕ × ℤ) → List ReportLine
stat_lines name layers = map layer_line layers ++ reply (sum_text name (length layers)) ∷ []

-- The lines tell the layers of the text, in the order of their first boxes, each with the number of squares that the text gives to it.
pub record TellsLayers (cif : CifParts) (name : List ℕ) (lines : List ReportLine) : Type 0 where
  pub areas : List ℤ
  pub one_each : length areas ≡ length cif.layers
  pub each : (place : ℕ) (area : ℤ) → slice_get areas place ≡ Some area → HasSquares (IsMeant cif place) area
  pub are : lines ≡ stat_lines name (zip cif.layers areas)

-- ---- what the command does

-- The text is past no limit, all its boxes lie within the range, and its layers are told.
pub record TellsText (cif : CifParts) (name file : List ℕ) (effect : FreeEffect) : Type 0 where
  pub within : IsWithinLimits (size_of cif)
  pub in_range : StaysInRange cif
  pub lines : List ReportLine
  pub tells : TellsLayers cif name lines
  pub is : effect ≡ accepted tt lines (file ∷ [])

-- The text is past a limit.
pub record RefusesSize (number : ℕ) (cif : CifParts) (file : List ℕ) (effect : FreeEffect) : Type 0 where
  pub limit : CifLimit
  pub past : IsFirstPast limit (size_of cif)
  pub is : effect ≡ refused number tt (too_many (cif_limit_word limit)) (file ∷ [])

-- It is past none, and a box that it stands for leaves the range.
pub record RefusesRange (number : ℕ) (cif : CifParts) (file : List ℕ) (effect : FreeEffect) : Type 0 where
  pub within : IsWithinLimits (size_of cif)
  pub outside : StandsOutside cif
  pub is : effect ≡ refused number tt out_of_range (file ∷ [])

-- What is done with a text that says this.
abbrev pub MeasuresCif : ℕ → List ℕ → List ℕ → CifParts → FreeEffect → Type 0
MeasuresCif number name file cif effect =
    TellsText cif name file effect ⊎ (RefusesSize number cif file effect ⊎ RefusesRange number cif file effect)

-- A text with a faulty command is refused.
abbrev pub MeasuresText : ℕ → List ℕ → List ℕ → Result CifParts (At CifFault) → FreeEffect → Type 0
MeasuresText number name file (Ok cif) effect = MeasuresCif number name file cif effect
MeasuresText number name file (Err at) effect = effect ≡ refused number tt (cif_refusal file at) (file ∷ [])

-- There may be no such file.
abbrev pub MeasuresFetched : ℕ → List ℕ → List ℕ → Result (List ℕ) FetchFault → FreeEffect → Type 0
MeasuresFetched number name file (Ok text) effect = MeasuresText number name file (cif_in text) effect
MeasuresFetched number name file (Err fault) effect = effect ≡ refused number tt (file_refusal file fault) (file ∷ [])

-- It needs no technology.
abbrev pub CifstatMeans : ℕ → Files → List ℕ → FreeEffect → Type 0
CifstatMeans number files name effect = MeasuresFetched number name (cif_file name) (text_in files (cif_file name)) effect
