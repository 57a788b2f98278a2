-- Thin records: which cells those of a tree use, in order.
use Rattle.std.specs.Prelude.{List, [], map, slice_index_or}
use Rattle.ext_model.specs.declared.records.UseRec.{UseRec}
use Rattle.ext_model.specs.declared.records.CellExt.{CellExt}
use Rattle.ext_model.specs.declared.arrays.ArrayUse.{ArrayUse}
use Rattle.ext_model.specs.declared.arrays.ArrayExt.{ArrayExt}
use Rattle.ext_model.specs.Plain.{plain_uses}

-- the first element of a use
abbrev pub first_use : ArrayUse → UseRec
first_use used = slice_index_or (plain_uses used) 0 (record { cell = used.cell; id = []; six = [] })

-- the record of the cell with the first element of each of its uses, and nothing else
abbrev pub thin : ArrayExt → CellExt
thin ext = record { cell = ext.cell; tech = ext.tech; classes = []; uses = map first_use ext.uses; nodes = []; fets = []; merges = [] }

-- the thin forms of records
abbrev pub thins : List ArrayExt → List CellExt
thins exts = map thin exts
