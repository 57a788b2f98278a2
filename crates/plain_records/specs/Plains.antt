-- Records with arrays and rows, and what they say.
use Rattle.std.specs.Prelude.{List, map, All}
use Rattle.finite_sets.specs.Lists.{Distinct}
use Rattle.ext_model.specs.declared.records.CellExt.{CellExt}
use Rattle.ext_model.specs.declared.arrays.ArrayExt.{ArrayExt}
use Rattle.ext_model.specs.LawfulArrays.{IsLawfulArrayExt}
use Rattle.ext_model.specs.Plain.{plain}

-- the plain forms of records
abbrev pub plains : List ArrayExt → List CellExt
plains exts = map plain exts

-- The records of a tree are lawful, and no two are of one cell.
pub record AreArrayRecords (exts : List ArrayExt) : Type 0 where
  pub lawful : All IsLawfulArrayExt exts
  pub cells_differ : Distinct (map (λ ext. ext.cell) exts)
