-- The files of cells as a kind of files that lead to others.
use Rattle.std.specs.Prelude.{ℕ, List, map, Result, Ok, Err}
use Rattle.session_model.specs.FileTrees.{FileKind}
use Rattle.mag_text.specs.CellLibrary.Views.{LibraryView}
use Rattle.mag_text.specs.Drafts.{Draft}
use Rattle.cell_loading.specs.declared.faults.LoadFault.{LoadFault}
use Rattle.cell_loading.specs.CellFiles.{ReadCell, cell_file, file_gives, is_known}

-- the cells that a text uses, in the order of its uses
abbrev pub children_said : Draft → List (List ℕ)
children_said draft = map (λ used. used.cell) draft.uses

-- what a file gives, with the name of its cell
abbrev pub with_name : List ℕ → Result Draft LoadFault → Result ReadCell LoadFault
with_name name (Ok draft) = Ok (name, draft)
with_name name (Err told) = Err told

-- The files of cells that come to this library. A cell that the library has or that was read is passed over, and a text leads to the cells
-- that it uses.
abbrev pub cell_files : LibraryView → FileKind ReadCell LoadFault
cell_files view = record {
  file = cell_file;
  is_known = is_known view;
  gives = λ files read name. with_name name (file_gives files view read name);
  name = λ cell. cell.0;
  leads_to = λ cell. children_said cell.1;
}
