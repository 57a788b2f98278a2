-- What the circuit file of a cell gives, or why it is refused.
use Rattle.std.specs.Prelude.{nat_le, ℕ, Bool, if◌then◌else◌, List, ◌++◌, length, map, codes, Result, Ok, Err}
use Rattle.std.specs.List.{list_any}
use Rattle.std.specs.Str.{bytes_eq}
use Rattle.text_form.specs.declared.reading.At.{At}
use Rattle.outside_io.specs.Files.{Files}
use Rattle.session_model.specs.declared.fetching.FetchFault.{FetchFault}
use Rattle.session_model.specs.Fetches.{text_in}
use Rattle.ext_model.specs.declared.arrays.ArrayExt.{ArrayExt}
use Rattle.ext_reading.specs.declared.faults.ExtReadFault.{ExtReadFault}
use Rattle.ext_reading.specs.ExtTexts.{ext_in}
use Rattle.ext_loading.specs.declared.faults.ExtLoadFault.{ExtLoadFault}
use Rattle.ext_loading.specs.declared.faults.ExtLoadFault.TheVariants.{Ext, File, TooManyCells}
use Rattle.ext_loading.specs.declared.limits.TheConstants.{MOST_READ_CELLS}

-- the circuit file of a cell
abbrev pub ext_file : List ℕ → List ℕ
ext_file cell = cell ++ codes ".ext"

-- the cells whose files were read
abbrev pub cells_read : List ArrayExt → List (List ℕ)
cells_read read = map (λ ext. ext.cell) read

-- the file of the cell of this name was read
abbrev pub is_read : List ArrayExt → List ℕ → Bool
is_read read name = list_any (bytes_eq name) (cells_read read)

-- what a text without faults gives where these were read before: its record, if there is room for one more
abbrev pub record_gives : List ArrayExt → ArrayExt → Result ArrayExt ExtLoadFault
record_gives read ext = if nat_le MOST_READ_CELLS (length read) then Err TooManyCells else Ok ext

-- the same of what reading a text gave
abbrev pub read_gives : List ArrayExt → List ℕ → Result ArrayExt (At ExtReadFault) → Result ArrayExt ExtLoadFault
read_gives read file (Ok ext) = record_gives read ext
read_gives read file (Err at) = Err (Ext file at)

-- the same of what asking for the file gave
abbrev pub text_gives : List ArrayExt → List ℕ → List ℕ → Result (List ℕ) FetchFault → Result ArrayExt ExtLoadFault
text_gives read name file (Ok text) = read_gives read file (ext_in name text)
text_gives read name file (Err refused) = Err (File file refused)

-- What the circuit file of the cell of this name gives, where these were read before: the record that its text says, or the first of its
-- faults.
unfoldable pub file_gives : Files → List ArrayExt → List ℕ → Result ArrayExt ExtLoadFault
file_gives files read name = text_gives read name (ext_file name) (text_in files (ext_file name))
