-- Circuit files as a kind of files that lead to others.
use Rattle.std.specs.Prelude.{ℕ, List, map}
use Rattle.session_model.specs.FileTrees.{FileKind}
use Rattle.ext_model.specs.declared.arrays.ArrayExt.{ArrayExt}
use Rattle.ext_loading.specs.declared.faults.ExtLoadFault.{ExtLoadFault}
use Rattle.ext_loading.specs.ExtFiles.{ext_file, file_gives, is_read}

-- the cells that a record uses, in the order of its uses
abbrev pub cells_used : ArrayExt → List (List ℕ)
cells_used ext = map (λ used. used.cell) ext.uses

-- The circuit files of cells. A cell whose file was read is passed over, and a record leads to the cells that it uses.
abbrev pub circuit_files : FileKind ArrayExt ExtLoadFault
circuit_files = record {
  file = ext_file;
  is_known = is_read;
  gives = file_gives;
  name = λ ext. ext.cell;
  leads_to = cells_used;
}
