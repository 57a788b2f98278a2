-- Which records are read back from their written texts.
use Rattle.std.specs.Prelude.{◌≡◌, ◌≤◌, length, All, Ok}
use Rattle.std.specs.Int.{w32}
use Rattle.std.specs.Int.RustNames.{FitsSigned}
use Rattle.ext_model.specs.declared.arrays.ArrayExt.{ArrayExt}
use Rattle.ext_model.specs.LawfulArrays.{IsLawfulArrayExt}
use Rattle.ext_text.specs.WrittenTexts.{ext_text}
use Rattle.ext_reading.specs.declared.limits.TheConstants.{MOST_USES, GREATEST_CLASS_VALUE}
use Rattle.ext_reading.specs.ExtTexts.{ext_in}

-- The record is lawful, and within the limits of files that are read: there are no more uses than a file may have, the six numbers of each are
-- of 32 bits with sign, and no class has a greater value than one may have.
pub record IsReadable (ext : ArrayExt) : Type 0 where
  pub lawful : IsLawfulArrayExt ext
  pub uses : length ext.uses ≤ MOST_USES
  pub numbers : All (λ used. All (FitsSigned w32) used.six) ext.uses
  pub values : All (λ value. value ≤ GREATEST_CLASS_VALUE) ext.classes

-- such a record is read from its text and the name of its cell as the same
abbrev pub WrittenRecordsAreReadBack : Type 0
WrittenRecordsAreReadBack = (ext : ArrayExt) → IsReadable ext → ext_in ext.cell (ext_text ext) ≡ Ok ext
