-- The elements of a tree of records: its root, and through the uses all that is below it.
use Rattle.std.specs.Prelude.{ℕ, zero, suc, Bool, Option, Some, None, ℤ, pos, List, [], ◌∷◌, ◌++◌, map, find, All, slice_index_or}
use lib.Pointwise.{pointwise}
use Rattle.std.specs.Ordering.{int_eq}
use Rattle.std.specs.List.{flat_map}
use Rattle.std.specs.Str.{bytes_eq}
use Rattle.ext_model.specs.FiniteSets.Lists.{Distinct}
use Rattle.ext_model.specs.GeoCore.declared.orients.Orient.{Orient}
use Rattle.ext_model.specs.GeoCore.declared.orients.Orient.TheVariants.{R0}
use Rattle.ext_model.specs.GeoCore.declared.transforms.Transform.{Transform}
use Rattle.ext_model.specs.GeoCore.declared.squares.Square.{Square}
use Rattle.ext_model.specs.GeoCore.Images.{image, six_of}
use Rattle.ext_model.specs.GeoCore.Orientation.{all_orients}
use Rattle.ext_model.specs.declared.records.UseRec.{UseRec}
use Rattle.ext_model.specs.declared.records.CellExt.{CellExt}
use Rattle.ext_model.specs.Lawful.{IsLawful}
use Rattle.circuit_model.specs.declared.limits.TheConstants.{LONGEST_CHAIN}

-- The records of a tree are lawful, and no two are of one cell.
pub record AreRecords (exts : List CellExt) : Type 0 where
  pub lawful : All IsLawful exts
  pub cells_differ : Distinct (map (λ ext. ext.cell) exts)

-- the record of a cell, where it has one
abbrev pub ext_of : List CellExt → List ℕ → Option CellExt
ext_of exts cell = find (λ ext. bytes_eq ext.cell cell) exts

-- An element: the uses that lead to it from the root, the outermost first, and the record of its cell.
pub record Element : Type 0 where
  pub uses : List UseRec
  pub ext : CellExt

-- the names of the elements on the way from the root to it, its own last; the root has none
abbrev pub ids_of : Element → List (List ℕ)
ids_of element = map (λ used. used.id) element.uses

-- what stands below a use that leads somewhere
abbrev pub of_option : {X Y : Type 0} → (X → List Y) → Option X → List Y
of_option f None = []
of_option f (Some x) = f x

-- an element of this record to which these uses lead, and all below it through at most so many records, depth first in the order of
-- uses
unfoldable pub elements_below : ℕ → List CellExt → List UseRec → CellExt → List Element
elements_below zero exts uses ext = []
elements_below (suc levels) exts uses ext =
    record { uses = uses; ext = ext }
    ∷ flat_map (λ used. of_option (elements_below levels exts (uses ++ used ∷ [])) (ext_of exts used.cell)) ext.uses

-- the elements of a tree: the root without uses, and all below it
abbrev pub elements_of : List CellExt → CellExt → List Element
elements_of exts root = elements_below LONGEST_CHAIN exts [] root

-- the orientation with the displacements of the six numbers
abbrev pub with_shift : List ℤ → Orient → Transform
with_shift six orient = record { orient = orient; dx = slice_index_or six 2 (pos 0); dy = slice_index_or six 5 (pos 0) }

-- the transform whose six numbers they are; the six numbers of lawful records are those of one
unfoldable pub transform_of : List ℤ → Transform
transform_of six =
    elim (find (λ orient. pointwise int_eq (six_of (with_shift six orient)) six) all_orients) [
      | Some orient ↦ with_shift six orient
      | None ↦ with_shift six R0
    ]

-- where a square of the child lies in the cell that uses it
abbrev pub moved : UseRec → Square → Square
moved used square = image (transform_of used.six) square

-- where a square of an element's cell lies from the root: the innermost use moves it first
abbrev pub placed : List UseRec → Square → Square
placed [] square = square
placed (used ∷ uses) square = moved used (placed uses square)
