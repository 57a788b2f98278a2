-- How the cells that were read come to the library, or why they don't.
use Rattle.std.specs.Prelude.{◌≡◌, ℕ, suc, List, length}
use Rattle.mag_text.specs.CellBodies.declared.bodies.CellBody.{CellBody}
use Rattle.mag_text.specs.CellLibrary.declared.faults.LibFault.{LibFault}
use Rattle.mag_text.specs.CellLibrary.Additions.{AddAllIsRefused, AreNextCells, with_all}
use Rattle.mag_text.specs.CellLibrary.Libraries.{LibraryParts, seen, edits_of}
use Rattle.mag_text.specs.CellLibrary.Refusals.{EditIsRefused}
use Rattle.cell_loading.specs.declared.faults.LoadFault.{LoadFault}
use Rattle.cell_loading.specs.declared.loading.Loaded.{Loaded}
use Rattle.cell_loading.specs.declared.loading.Loaded.TheVariants as loaded
use Rattle.cell_loading.specs.Loads.{end_fault}

-- The cells came, as the next edit.
pub record CellsCame (old new : LibraryParts) (bodies : List (List ℕ × CellBody)) (count : ℕ) : Type 0 where
  pub edits : edits_of new ≡ suc (edits_of old)
  pub after : seen new ≡ with_all (seen old) bodies
  pub count_is : count ≡ length bodies
  pub may_come : (refused : LibFault) → EditIsRefused (edits_of old) (AddAllIsRefused (seen old) bodies) refused → ⊥

-- The library refuses the cells.
pub record CellsStayAway (old : LibraryParts) (bodies : List (List ℕ × CellBody)) (told : LoadFault) : Type 0 where
  pub refused : LibFault
  pub is_refused : EditIsRefused (edits_of old) (AddAllIsRefused (seen old) bodies) refused
  pub is : told ≡ end_fault refused

-- The cells came, or the library refuses them.
abbrev pub Arrives : LibraryParts → LibraryParts → List (List ℕ × CellBody) → Loaded → Type 0
Arrives old new bodies (loaded.Cells count) = CellsCame old new bodies count
Arrives old new bodies (loaded.Refused told) = CellsStayAway old bodies told

-- Some cells came, as the next edit, whose number is the stamp of each, and no other stamp changed.
abbrev pub ArriveWithStamps : LibraryParts → LibraryParts → Loaded → Type 0
ArriveWithStamps old new (loaded.Cells count) =
    (cells : List (List ℕ × CellBody)) × AreNextCells old new cells × (seen new ≡ with_all (seen old) cells)
ArriveWithStamps old new (loaded.Refused told) = Unit {0}
