-- What is seen of lawful libraries.
use Rattle.std.specs.Prelude.{◌≡◌, All}
use Rattle.cell_bodies.specs.CellPaint.Paints.{IsSoundPaint}
use Rattle.cell_library.specs.Libraries.{IsLawfulLibrary, LibraryParts, seen}
use Rattle.cell_library.specs.Views.{LibraryView}

-- Some lawful library is seen so.
abbrev pub IsLawfulView : LibraryView → Type 0
IsLawfulView view = (library : LibraryParts) × IsLawfulLibrary library × (seen library ≡ view)

-- The paint of each cell is sound.
abbrev pub HasSoundPaint : LibraryView → Type 0
HasSoundPaint view = All (λ body. IsSoundPaint view.tech.types body.own) view.cells

-- A lawful library is seen so, and its paint is sound.
pub record IsSoundView (view : LibraryView) : Type 0 where
  pub lawful : IsLawfulView view
  pub paint : HasSoundPaint view
