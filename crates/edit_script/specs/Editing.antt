-- What a script edits: a library, and one of its cells as the current one.
use Rattle.std.specs.Prelude.{◌<◌, ℕ, length, Option, IfSome}
use Rattle.std.specs.Option.{option_map}
use Rattle.ext_model.specs.declared.tables.CellKey.{CellKey}
use Rattle.cell_library.specs.Libraries.{LibraryParts, seen, edits_of}
use Rattle.cell_library.specs.Views.{LibraryView}

-- A library, how many edits there were, and the position of the current cell, where there is one.
pub record Editing : Type 0 where
  pub library : LibraryView
  pub edits : ℕ
  pub current : Option ℕ

-- what is edited where a program keeps this
abbrev pub editing_of : LibraryParts → Option CellKey → Editing
editing_of library current =
    record { library = seen library; edits = edits_of library; current = option_map (λ key. key.0) current }

-- the current cell, if there is one, is one of the library's
abbrev pub IsCurrent : LibraryParts → Option CellKey → Type 0
IsCurrent library current = IfSome current (λ key. key.0 < length library.contents)
