-- The uses of a library's cells are of the form that records have.
use Rattle.lawful_trees.proofs.Common.{◌≡◌, ◌<◌, ℕ, ℤ, pos, negsuc, List, length, inl, refl, subst, IsTrue, arith, Option, Some, None, unsigned_abs}
use Rattle.lawful_trees.proofs.Common.{ints, In, In-map_source, slice_get-In, Grid, is_use_id, LibraryParts, IsLawfulLibrary, seen, use_is_lawful}
use Rattle.ext_model.specs.declared.limits.TheConstants.{SHIFT_EDGE}
use Rattle.ext_model.specs.declared.arrays.ArrayUse.{ArrayUse}
use Rattle.ext_model.specs.LawfulArrays.{HasIdForm, IsArrayUse}
use Rattle.library_trees.specs.CellTree.Uses.{IsLawfulGrid, IsShift}
use Rattle.library_trees.specs.CellLibrary.Views.{view_at}
use Rattle.library_trees.specs.CellRecords.{library_use, library_uses}
use Rattle.lawful_trees.proofs.LibraryElements.{use_ids}

-- the id of a use has its form, with or without a grid
form_of : (id : List ℕ) (grid : Option Grid) → IsTrue (is_use_id id) → ((g : Grid) → grid ≡ Some g → IsLawfulGrid g) → HasIdForm grid id
form_of id None is lawful = inl is
form_of id (Some grid) is lawful = (is, (lawful grid refl).lawful)

-- a use moves its child less far than a record may
near : (z : ℤ) → IsShift z → unsigned_abs z < SHIFT_EDGE
near (pos n) is = omega (arith, ints, is.high)
near (negsuc n) is = omega (arith, ints, is.low)

-- the uses of a cell are of their form
pub array_uses : (library : LibraryParts) → IsLawfulLibrary library → (cell : ℕ) → cell < length library.contents → (used : ArrayUse)
    → In used (library_uses (seen library) cell) → IsArrayUse used
array_uses library lawful cell below used here =
    let uses = (view_at (seen library) cell).uses in
    let made = In-map_source (library_use (seen library)) used uses here in
    let entry = made.0 in
    let at = slice_get-In entry uses made.1.0 in
    let is = (use_is_lawful library lawful cell below at.0 entry.0 entry.1 at.1).0 in
    subst IsArrayUse made.1.1
    (record {
      id = form_of entry.0 entry.1.grid (use_ids library lawful cell entry made.1.0) is.grid;
      six = record { transform = entry.1.placed; numbers = refl; dx = near entry.1.placed.dx is.dx; dy = near entry.1.placed.dy is.dy };
    })
