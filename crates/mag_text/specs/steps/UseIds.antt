-- The ids of uses as a set of words.
use Rattle.std.specs.Prelude.{◌≡◌, ℕ, List, Vec}
use Rattle.std.specs.List.{list_any}
use Rattle.std.specs.Str.{bytes_eq}
use Rattle.std.specs.declared.alloc.Global.{Global}
use Rattle.cell_library.specs.CellBodies.declared.bodies.CellUse.{CellUse}
use Rattle.cell_library.specs.CellBodies.Bodies.{ids_of}

-- The words of the set are the ids of the uses, in whatever order.
abbrev pub AreIds : List (Vec ℕ Global) → List CellUse → Type 0
AreIds words uses = (id : List ℕ) → list_any (λ word. bytes_eq id word.items) words ≡ list_any (bytes_eq id) (ids_of uses)
