-- Labels of a lawful library.
use Rattle.library_trees.proofs.Common.{◌≡◌, ◌<◌, ℕ, ℤ, true, length, sym, subst, arith, RawTech, LibraryParts, IsLawfulLibrary, seen, uses_in}
use Rattle.library_trees.proofs.Common.{CellView, view_at}
use Rattle.std.proofs.Common.{Some, None, Option}
use Rattle.std.specs.Prelude.{All, IfSome}
use Rattle.std.proofs.lemmas.Bool.Decides.{nat_tests}
use Rattle.std.proofs.lemmas.Int.{ints}
use Rattle.ext_model.specs.GeoCore.declared.squares.Rect.{Rect}
use Rattle.ext_model.specs.GeoCore.Areas.{IsNear, IsSmall}
use Rattle.cell_library.specs.TechModel.declared.raw.Label.{Label}
use Rattle.cell_library.specs.TechModel.declared.raw.LayerId.{LayerId}
use Rattle.tree_names.specs.Names.Labels.{IsLabelOf, IsLayerOf}
use Rattle.cell_library.specs.CellPaint.Painting.{is_coordinate, is_in_range}
use Rattle.cell_library.specs.CellBodies.Bodies.{IsLabel}
use Rattle.cell_library.specs.CellBodies.Numbers.{is_label_area}
use Rattle.cell_library.proofs.PaintEdits.{held_lawful}
use Rattle.cell_library.proofs.ViewLaws.{cell_viewed}

coordinate_small : (z : ℤ) → is_coordinate z ≡ true → IsSmall z
coordinate_small z is = (grind (arith, ints), grind (arith, ints))

range_near : (area : Rect) → is_in_range area ≡ true → IsNear area
range_near area is = record {
  xlo = coordinate_small area.xlo (grind (arith, nat_tests));
  ylo = coordinate_small area.ylo (grind (arith, nat_tests));
  xhi = coordinate_small area.xhi (grind (arith, nat_tests));
  yhi = coordinate_small area.yhi (grind (arith, nat_tests));
}

in_both : (area : Rect) → is_label_area area ≡ true → is_in_range area ≡ true
in_both area is = grind (arith, nat_tests)

layer_of : (raw : RawTech) (layer : Option LayerId) → IfSome layer (λ l. l.0 < length raw.layers) → IsLayerOf raw layer
layer_of raw None is = tt
layer_of raw (Some layer) is = is

-- a lawful label is one that may name
label_of_lawful : (raw : RawTech) (label : Label) → IsLabel raw label → IsLabelOf raw label
label_of_lawful raw label is =
    record { layer = layer_of raw label.layer is.layer; near = range_near label.area (in_both label.area is.area) }

-- the labels of a cell are labels that may name
pub labels_may_name : (library : LibraryParts) (cell : ℕ) → IsLawfulLibrary library → cell < length library.contents
    → All (IsLabelOf library.tech) (view_at (seen library) cell).labels
labels_may_name library cell lawful below =
    subst (λ (body : CellView). All (IsLabelOf library.tech) body.labels)
    (sym (cell_viewed library.contents (uses_in library.tree.cells) cell below))
    (λ k d inside. label_of_lawful library.tech _ ((held_lawful library lawful cell below).labels k d inside))
