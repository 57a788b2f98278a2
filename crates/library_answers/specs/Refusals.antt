-- Why commands that change the library are refused.
use Rattle.std.specs.Prelude.{ℕ, List, [], ◌++◌, codes}
use Rattle.line_answers.specs.declared.refusals.Refusal.{Refusal}
use Rattle.line_answers.specs.Refusals.{at_line, at_line_text, cell_exists_text, cycle_text, file_fault_text, no_cell_text, no_layer_text, of_inside}
use Rattle.line_answers.specs.Refusals.{out_of_range_text, too_many_text}
use Rattle.tech_model.specs.declared.faults.Section.{Section}
use Rattle.tech_model.specs.declared.faults.Section.TheVariants as sections
use Rattle.tech_model.specs.declared.faults.LimitedList.{LimitedList}
use Rattle.tech_model.specs.declared.faults.LimitedList.TheVariants as lists
use Rattle.tech_model.specs.declared.faults.TechFault.{TechFault}
use Rattle.tech_model.specs.declared.faults.TechFault.TheVariants.{NoSection, NoPlane, NoType, Twice, SameSet, ContactPart, NotMonotone, FetTerminal}
use Rattle.tech_model.specs.declared.faults.TechFault.TheVariants.{FetName, BadForm, TypeExpression, Memory}
use Rattle.tech_model.specs.declared.faults.TechFault.TheVariants as faults
use Rattle.tech_file.specs.declared.reading.TechAt.{TechAt}
use Rattle.hier_merge.specs.CellLibrary.declared.limits.LibraryLimit.{LibraryLimit}
use Rattle.hier_merge.specs.CellLibrary.declared.limits.LibraryLimit.TheVariants as library
use Rattle.cell_loading.specs.MagText.declared.faults.MagFault.{MagFault}
use Rattle.cell_loading.specs.MagText.declared.faults.MagFault.TheVariants as mag
use Rattle.cell_loading.specs.declared.faults.LoadFault.{LoadFault}
use Rattle.cell_loading.specs.declared.faults.LoadFault.TheVariants as load
use Rattle.cell_loading.specs.Loads.{cause_of_load}
use Rattle.undo_log.specs.EditScript.declared.faults.EditFault.{EditFault}
use Rattle.undo_log.specs.EditScript.declared.faults.EditFault.TheVariants as edit
use Rattle.undo_log.specs.declared.faults.UndoFault.{UndoFault}
use Rattle.undo_log.specs.declared.faults.UndoFault.TheVariants as undo
use Rattle.layout_gen.specs.declared.faults.GenerateFault.{GenerateFault}
use Rattle.layout_gen.specs.declared.faults.GenerateFault.TheVariants as made

-- ---- technologies

-- the name of a section
abbrev pub section_word : Section → List ℕ
section_word sections.Tech = codes "tech"
section_word sections.Planes = codes "planes"
section_word sections.Types = codes "types"
section_word sections.Contact = codes "contact"
section_word sections.Compose = codes "compose"
section_word sections.Connect = codes "connect"
section_word sections.Extract = codes "extract"

-- what a technology has too many of
abbrev pub list_word : LimitedList → List ℕ
list_word lists.Planes = codes "planes"
list_word lists.Types = codes "types"
list_word lists.Classes = codes "classes"
list_word lists.Fets = codes "fets"

-- The code of a technology's fault, and the fault's words. Want of memory is no fault of a text.
abbrev pub tech_fault_text : TechFault → List ℕ
tech_fault_text (NoSection section) = codes "T1 " ++ section_word section
tech_fault_text (NoPlane name) = codes "T2 " ++ name
tech_fault_text (NoType name) = codes "T3 " ++ name
tech_fault_text (Twice name) = codes "T4 " ++ name
tech_fault_text (SameSet first second) = codes "T5 " ++ first ++ codes " " ++ second
tech_fault_text (ContactPart name) = codes "T6 " ++ name
tech_fault_text (NotMonotone s t wide_s wide_t) = codes "T7 " ++ s ++ codes " " ++ t ++ codes " " ++ wide_s ++ codes " " ++ wide_t
tech_fault_text (FetTerminal fet terminal) = codes "T8 " ++ fet ++ codes " " ++ terminal
tech_fault_text (FetName name) = codes "T9 " ++ name
tech_fault_text (faults.TooMany list) = codes "T10 " ++ list_word list
tech_fault_text BadForm = codes "T11"
tech_fault_text (TypeExpression entry) = codes "T12 " ++ entry
tech_fault_text Memory = []

-- the fault of a technology's file
abbrev pub tech_refusal : List ℕ → TechAt → Refusal
tech_refusal file at = at_line (codes "E5 ") file at.line (tech_fault_text at.fault)

-- a technology was read already
abbrev pub tech_again : Refusal
tech_again = of_inside (codes "E22 technology again")

-- ---- libraries

-- what a library has too many of
abbrev pub library_limit_word : LibraryLimit → List ℕ
library_limit_word library.Cells = codes "Cells"
library_limit_word library.Uses = codes "Uses"
library_limit_word library.Depth = codes "Depth"
library_limit_word library.Elements = codes "Elements"
library_limit_word library.Tiles = codes "Tiles"
library_limit_word library.Edits = codes "Edits"

-- ---- loads

-- the code of a fault of a cell's file
abbrev pub mag_code : MagFault → List ℕ
mag_code mag.Magic = codes "M1"
mag_code mag.BadLine = codes "M2"
mag_code mag.NoLayer = codes "M3"
mag_code mag.EmptyRect = codes "M4"
mag_code mag.Range = codes "M5"
mag_code mag.Transform = codes "M6"
mag_code mag.UseTwice = codes "M7"
mag_code mag.NoEnd = codes "M8"
mag_code mag.NotHere = codes "M9"
mag_code mag.Memory = []

-- why a load is refused
abbrev pub load_fault_text : LoadFault → List ℕ
load_fault_text (load.CellExists cell) = cell_exists_text cell
load_fault_text (load.File file fault) = file_fault_text file fault
load_fault_text (load.Mag file at) = at_line_text (codes "E7 ") file at.line (mag_code at.fault)
load_fault_text (load.Scale file number) = at_line_text (codes "E7 ") file number (codes "M10")
load_fault_text (load.Cycle cell) = cycle_text cell
load_fault_text load.OutOfRange = out_of_range_text
load_fault_text (load.TooMany limit) = too_many_text (library_limit_word limit)
load_fault_text load.Memory = []

abbrev pub load_refusal : LoadFault → Refusal
load_refusal fault = record { cause = cause_of_load fault; text = load_fault_text fault }

-- ---- edits

-- why an edit is refused
abbrev pub edit_fault_text : EditFault → List ℕ
edit_fault_text edit.NoCurrent = codes "E8 no cell -"
edit_fault_text (edit.NoCell cell) = no_cell_text cell
edit_fault_text (edit.CellExists cell) = cell_exists_text cell
edit_fault_text (edit.NoLayer word) = no_layer_text word
edit_fault_text edit.EmptyRect = codes "E11 empty rectangle"
edit_fault_text edit.OutOfRange = out_of_range_text
edit_fault_text edit.BadTransform = codes "E13 not an orientation"
edit_fault_text (edit.NoUse id) = codes "E14 no use " ++ id
edit_fault_text (edit.UseExists id) = codes "E15 use exists " ++ id
edit_fault_text (edit.Cycle cell) = cycle_text cell
edit_fault_text (edit.NoLabel text) = codes "E17 no label " ++ text
edit_fault_text (edit.TooMany limit) = too_many_text (library_limit_word limit)
edit_fault_text edit.Memory = []

abbrev pub edit_refusal : EditFault → Refusal
edit_refusal fault = of_inside (edit_fault_text fault)

-- ---- undo and redo

-- why no edit is taken back, or made again
abbrev pub undo_fault_text : UndoFault → List ℕ
undo_fault_text undo.NothingToUndo = codes "E27 nothing to undo"
undo_fault_text undo.NothingToRedo = codes "E28 nothing to redo"
undo_fault_text undo.Edits = too_many_text (library_limit_word library.Edits)
undo_fault_text undo.Memory = []

abbrev pub undo_refusal : UndoFault → Refusal
undo_refusal fault = of_inside (undo_fault_text fault)

-- ---- stacks

-- why the cells of a stack are not made
abbrev pub generate_fault_text : GenerateFault → List ℕ
generate_fault_text (made.CellExists cell) = cell_exists_text cell
generate_fault_text (made.NoLayer word) = no_layer_text word
generate_fault_text (made.TooMany limit) = too_many_text (library_limit_word limit)
generate_fault_text made.Memory = []

abbrev pub generate_refusal : GenerateFault → Refusal
generate_refusal fault = of_inside (generate_fault_text fault)
