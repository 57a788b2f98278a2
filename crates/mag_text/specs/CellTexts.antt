-- The text of a cell of a library.
use Rattle.std.specs.Prelude.{◌≡◌, ℕ, List, [], ◌∷◌, Some}
use Rattle.geo_core.specs.Images.{six_of}
use Rattle.cell_tree.specs.declared.use_tables.UseBody.{UseBody}
use Rattle.cell_library.specs.Limits.{HullIs}
use Rattle.cell_library.specs.Views.{LibraryView, view_at}
use Rattle.mag_text.specs.declared.written.WrittenUse.{WrittenUse}
use Rattle.mag_text.specs.WrittenTexts.{IsWrittenText}

-- The use is written with its child's name, its id, its six numbers, its grid, and the child's hull in the child's own coordinates.
pub record IsWrittenUse (view : LibraryView) (entry : List ℕ × UseBody) (written : WrittenUse) : Type 0 where
  pub cell : written.cell.now ≡ (view_at view entry.1.child.0).name
  pub id : written.id.now ≡ entry.0
  pub six : written.six ≡ six_of entry.1.placed
  pub grid : written.grid ≡ entry.1.grid
  pub hull : HullIs view entry.1.child.0 written.hull

-- the uses are written, in their order
abbrev pub AreWrittenUses : LibraryView → List (List ℕ × UseBody) → List WrittenUse → Type 0
AreWrittenUses view [] [] = Unit {0}
AreWrittenUses view [] (one ∷ written) = ⊥
AreWrittenUses view (entry ∷ uses) [] = ⊥
AreWrittenUses view (entry ∷ uses) (one ∷ written) = IsWrittenUse view entry one × AreWrittenUses view uses written

-- The text of the cell: its scale, which is the library's, the strips of its paint, its uses and its labels.
pub record IsCellText (view : LibraryView) (cell : ℕ) (text : List ℕ) : Type 0 where
  pub scale : ℕ × ℕ
  pub has_scale : view.scale ≡ Some scale
  pub uses : List WrittenUse
  pub are_uses : AreWrittenUses view (view_at view cell).uses uses
  pub written : IsWrittenText view.tech scale (view_at view cell).own uses (view_at view cell).labels text
