-- What the file of a cell gives to a load, or why it is refused.
use Rattle.std.specs.Prelude.{◌==◌, ◌&&◌, ◌+◌, not, nat_le, nat_lt, ℕ, Bool, true, if◌then◌else◌, List, [], ◌∷◌, ◌++◌, length, map, codes, Option, Some, None}
use Rattle.std.specs.Prelude.{Result, Ok, Err}
use Rattle.std.specs.List.{list_any}
use Rattle.std.specs.Option.{option_or}
use Rattle.std.specs.Str.{bytes_eq}
use Rattle.text_form.specs.declared.reading.At.{At}
use Rattle.outside_io.specs.Files.{Files}
use Rattle.session_model.specs.declared.fetching.FetchFault.{FetchFault}
use Rattle.session_model.specs.Fetches.{text_in}
use Rattle.cell_tree.specs.declared.limits.TheConstants.{MOST_USES}
use Rattle.mag_text.specs.CellLibrary.declared.limits.LibraryLimit.TheVariants.{Cells, Uses}
use Rattle.mag_text.specs.CellLibrary.declared.limits.TheConstants.{MOST_CELLS}
use Rattle.mag_text.specs.CellLibrary.Views.{LibraryView, names_of}
use Rattle.mag_text.specs.declared.faults.MagFault.{MagFault}
use Rattle.mag_text.specs.Drafts.{Draft}
use Rattle.mag_text.specs.MagTexts.{mag_in}
use Rattle.mag_text.specs.ScaleLines.{scale_line}
use Rattle.cell_loading.specs.declared.faults.LoadFault.{LoadFault}
use Rattle.cell_loading.specs.declared.faults.LoadFault.TheVariants as fault

-- a cell whose file was read: its name, and what its text says
abbrev pub ReadCell : Type 0
ReadCell = List ℕ × Draft

-- the file of a cell
abbrev pub cell_file : List ℕ → List ℕ
cell_file cell = cell ++ codes ".mag"

-- the names of the cells that were read
abbrev pub names_read : List ReadCell → List (List ℕ)
names_read read = map (λ cell. cell.0) read

-- a cell of the library, or one that was read, has the name
abbrev pub is_known : LibraryView → List ReadCell → List ℕ → Bool
is_known view read name = list_any (bytes_eq name) (names_of view.cells ++ names_read read)

-- the scale of the first file that was read
abbrev pub scale_of_first : List ReadCell → Option (ℕ × ℕ)
scale_of_first [] = None
scale_of_first (cell ∷ read) = Some cell.1.scale

-- The scale that a file has to have: the library's, or that of the first file where the library has no cell. The first file of a library
-- without cells may have any.
abbrev pub scale_asked : LibraryView → List ReadCell → Option (ℕ × ℕ)
scale_asked view read = option_or view.scale (scale_of_first read)

-- both numbers are those that are asked for
abbrev pub has_scale : Option (ℕ × ℕ) → ℕ × ℕ → Bool
has_scale None scale = true
has_scale (Some asked) scale = (asked.0 == scale.0) && (asked.1 == scale.1)

-- what a text without faults of its own gives: it has the scale, has no more uses than a cell may have, and there is room for its cell
abbrev pub draft_gives : LibraryView → List ReadCell → List ℕ → List ℕ → Draft → Result Draft LoadFault
draft_gives view read file text draft =
    if not (has_scale (scale_asked view read) draft.scale) then Err (fault.Scale file (scale_line text))
    else if nat_lt MOST_USES (length draft.uses) then Err (fault.TooMany Uses)
    else if nat_le MOST_CELLS (length view.cells + length read) then Err (fault.TooMany Cells)
    else Ok draft

-- the same of what reading a text gave
abbrev pub read_gives : LibraryView → List ReadCell → List ℕ → List ℕ → Result Draft (At MagFault) → Result Draft LoadFault
read_gives view read file text (Ok draft) = draft_gives view read file text draft
read_gives view read file text (Err at) = Err (fault.Mag file at)

-- the same of what asking for the file gave
abbrev pub text_gives : LibraryView → List ReadCell → List ℕ → Result (List ℕ) FetchFault → Result Draft LoadFault
text_gives view read file (Ok text) = read_gives view read file text (mag_in view.tech text)
text_gives view read file (Err refused) = Err (fault.File file refused)

-- What the file of the cell of this name gives, where these were read before: what its text says, or the first of its faults.
unfoldable pub file_gives : Files → LibraryView → List ReadCell → List ℕ → Result Draft LoadFault
file_gives files view read name = text_gives view read (cell_file name) (text_in files (cell_file name))
