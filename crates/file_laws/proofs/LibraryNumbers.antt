-- The numbers of a lawful library are near: those of the boxes of its parts, and those of elements whose cells have hulls.
use Rattle.file_laws.proofs.Common.{◌≡◌, ◌≢◌, ◌+◌, ◌<◌, ◌≤◌, inl, ℕ, zero, suc, ℤ, pos, true, List, [], ◌∷◌, length, sym, ap, subst, ◌∙◌, arith}
use Rattle.file_laws.proofs.Common.{slice_get, ints, In, In-append_left, In-append_right, In-map_source, is_plain_name, Orient, Rect, Square}
use Rattle.file_laws.proofs.Common.{Transform, Covers, RawTech, is_subset, UseBody, displacements, place_at, IsLawfulLibrary, LibraryParts, seen}
use Rattle.file_laws.proofs.Common.{HullIs, Layout, view_at, HoldsPart, part_sets, elements_of_use}
use Rattle.std.proofs.Common.{◌<ℤ◌, filter}
use Rattle.std.specs.Prelude.{◌-ℤ◌, ◌==◌, Some, bit_and}
use Rattle.std.specs.Int.Bits.{and_zero_l, and_zero_r}
use Rattle.std.proofs.lemmas.Bool.{eqb-true}
use Rattle.std.proofs.lemmas.List.{length-append, length-map}
use Rattle.std.proofs.lemmas.List.FromFn.{length-range_with_len}
use Rattle.finite_sets.proofs.Searches.{All-In, length-filter}
use Rattle.geo_core.specs.declared.orients.Orient.TheVariants.{R0}
use Rattle.geo_core.specs.Images.{rect_image}
use Rattle.geo_core.specs.Strips.{IsStrip}
use Rattle.tech_model.specs.Rules.{types_of}
use Rattle.tech_model.specs.Types.{parts_of}
use Rattle.tech_model.specs.WellFormed.{IsWellFormed}
use Rattle.cell_tree.specs.declared.sizes.Dimension.TheVariants.{Hull}
use Rattle.cell_tree.specs.declared.sizes.Size.{Size}
use Rattle.cell_tree.specs.Hulls.{IsLawfulBox, SpansInRange, displaced, element_hulls}
use Rattle.cell_tree.specs.Sizes.{IsHullInRange, hulls_below, size_at}
use Rattle.cell_tree.specs.Trees.{cell_at}
use Rattle.cif_writing.specs.CellLibrary.CellPaint.Painting.{kinds_on, paint_range}
use Rattle.cif_writing.specs.CellLibrary.Contents.{no_held}
use Rattle.cif_writing.specs.CellLibrary.LayoutTrees.{element_transform}
use Rattle.cif_writing.specs.CellLibrary.Libraries.{uses_in}
use Rattle.cif_writing.specs.CellLibrary.LayoutModel.Layouts.{IsMaterial}
use Rattle.cif_writing.specs.CellLibrary.LayoutModel.Places.{Place}
use Rattle.cif_writing.specs.CellLibrary.Views.{CellView}
use Rattle.cif_writing.proofs.CellLibrary.BoxesBelow.{boxes_are_lawful, hull_seen}
use Rattle.cif_writing.proofs.CellLibrary.HullsHoldMaterial.{In-element_hulls, element_image, hull_holds_material}
use Rattle.cif_writing.proofs.CellLibrary.UseEdits.{cell_below, child_below, uses_here}
use Rattle.cif_writing.proofs.CellLibrary.ViewLaws.{cell_viewed}
use Rattle.cif_writing.specs.Parts.{atom_sets, is_atom, is_second_image, mark_sets, own_mark}
use Rattle.file_laws.proofs.HalfNumbers.{IsNear, IsNearBox}

-- ---- parts

-- there are fewer parts than three digits can number
pub parts_few : (raw : RawTech) → IsWellFormed raw → 1 + length (part_sets raw) ≤ 1000
parts_few raw well =
    let types = types_of raw in
    let all = length-append (atom_sets raw) (mark_sets raw) in
    let atoms = length-map (filter (is_atom raw) types) (parts_of raw) in
    let marks = length-map (filter (is_second_image raw) types) (own_mark raw) in
    let fewer_atoms = length-filter (is_atom raw) types in
    let fewer_marks = length-filter (is_second_image raw) types in
    let many = length-range_with_len 1 (length raw.types) in
    let limit = well.types_limit in
    omega arith

module _ (raw : RawTech) (own : Layout) where
  -- where some part is, there is material
  part_is_material : (part : ℕ) (square : Square) (holds : HoldsPart raw own part square) → part ≢ 0 → IsMaterial own (place_at holds.0 square)
  part_is_material part square holds some none =
      let within : is_subset part (parts_of raw 0) ≡ true = ap (λ (kind : ℕ). is_subset part (parts_of raw kind)) (sym none) ∙ holds.1 in
      some (sym (eqb-true (bit_and part 0) part within) ∙ and_zero_r part)

  -- no part at all is everywhere, and so it has no strips
  no_part_nowhere : (area : Rect) → IsStrip (HoldsPart raw own 0) area → ⊥
  no_part_nowhere area strip =
      let square : Square = record { x = area.xlo -ℤ pos 1; y = area.ylo } in
      (strip.runs area.ylo (omega (arith, ints)) strip.high).left (0, ap (λ (set : ℕ). set == 0) (and_zero_l (parts_of raw (kinds_on own 0 square))))

  -- so a part that has strips is some part
  part_with_strips : (part : ℕ) (area : Rect) → IsStrip (HoldsPart raw own part) area → part ≢ 0
  part_with_strips part area strip none = no_part_nowhere area (subst (λ (p : ℕ). IsStrip (HoldsPart raw own p) area) none strip)

-- ---- boxes

module _ (library : LibraryParts) (lawful : IsLawfulLibrary library) (cell : ℕ) where
  -- material lies in the range of paint
  material_in_range : (place : Place) → IsMaterial (view_at (seen library) cell).own place → Covers paint_range place.square
  material_in_range place material =
      let found = hull_holds_material (seen library) library.tree.cells library.tree.sizes lawful.boxes lawful.tree.sizes.right 0 cell place
      (inl material) in
      let spans : SpansInRange found.0 = subst IsHullInRange found.1 (lawful.tree.sizes.within Hull cell) in
      let covers : Covers found.0 place.square = found.2 in
      record {
        right_of_xlo = omega (arith, ints);
        left_of_xhi = omega (arith, ints);
        above_ylo = omega (arith, ints);
        below_yhi = omega (arith, ints);
      }

  -- and so do the strips of parts
  pub strip_is_near : (part : ℕ) (area : Rect) → IsStrip (HoldsPart library.tech (view_at (seen library) cell).own part) area → IsNearBox area
  strip_is_near part area strip =
      let own = (view_at (seen library) cell).own in
      let some = part_with_strips library.tech own part area strip in
      let high : area.ylo <ℤ area.yhi = strip.high in
      let first = strip.runs area.ylo (omega (arith, ints)) high in
      let wide : area.xlo <ℤ area.xhi = first.long in
      let last = strip.runs (area.yhi -ℤ pos 1) (omega (arith, ints)) (omega (arith, ints)) in
      let low = first.within area.xlo (omega (arith, ints)) wide in
      let top = last.within (area.xhi -ℤ pos 1) (omega (arith, ints)) (omega (arith, ints)) in
      let low_square : Square = record { x = area.xlo; y = area.ylo } in
      let top_square : Square = record { x = area.xhi -ℤ pos 1; y = area.yhi -ℤ pos 1 } in
      let from : Covers paint_range low_square =
      material_in_range (place_at low.0 low_square) (part_is_material library.tech own part low_square low some) in
      let to : Covers paint_range top_square =
      material_in_range (place_at top.0 top_square) (part_is_material library.tech own part top_square top some) in
      record {
        wide = wide;
        high = high;
        xlo = record { low = omega (arith, ints); high = omega (arith, ints) };
        ylo = record { low = omega (arith, ints); high = omega (arith, ints) };
        xhi = record { low = omega (arith, ints); high = omega (arith, ints) };
        yhi = record { low = omega (arith, ints); high = omega (arith, ints) };
      }

-- ---- elements

-- what takes a rectangle in range into the range does not move it far
near_by_orient : (o : Orient) (dx dy : ℤ) (area : Rect) → SpansInRange area → SpansInRange (rect_image (record { orient = o; dx = dx; dy = dy }) area)
    → IsNear dx × IsNear dy
unfolding rect_image
near_by_orient R0 dx dy area from to =
    (record { low = omega (arith, ints); high = omega (arith, ints) }, record { low = omega (arith, ints); high = omega (arith, ints) })
near_by_orient _ dx dy area from to =
    (record { low = omega (arith, ints); high = omega (arith, ints) }, record { low = omega (arith, ints); high = omega (arith, ints) })

-- the boxes of a use's elements are among those of all uses
among_boxes : (sizes : ℕ → Size) (uses : List (List ℕ × UseBody)) (k : ℕ) (entry : List ℕ × UseBody) (box : Rect) → slice_get uses k ≡ Some entry
    → In box (element_hulls entry.1 (sizes entry.1.child.0).hull) → In box (hulls_below sizes uses)
among_boxes sizes [] k entry box at among = absurd (let no : ⊥ = cc in no)
among_boxes sizes (first ∷ uses) zero entry box at among =
    let same : first ≡ entry = cc in
    In-append_left box (element_hulls first.1 (sizes first.1.child.0).hull) (hulls_below sizes uses)
    (subst (λ (e : List ℕ × UseBody). In box (element_hulls e.1 (sizes e.1.child.0).hull)) (sym same) among)
among_boxes sizes (first ∷ uses) (suc k) entry box at among =
    In-append_right box (element_hulls first.1 (sizes first.1.child.0).hull) (hulls_below sizes uses) (among_boxes sizes uses k entry box at among)

module _ (library : LibraryParts) (lawful : IsLawfulLibrary library) (cell : ℕ) (below : cell < length library.contents) where
  -- an element whose cell has a hull is not displaced far
  pub element_is_near : (k : ℕ) (entry : List ℕ × UseBody) → slice_get (view_at (seen library) cell).uses k ≡ Some entry → (hull : Rect)
      → HullIs (seen library) entry.1.child.0 (Some hull) → (element : Transform) → In element (elements_of_use entry.1)
      → IsNear element.dx × IsNear element.dy
  element_is_near k entry at hull is element among =
      let sizes = library.tree.sizes in
      let used = entry.1 in
      let many = lawful.so_many in
      let uses = (cell_at library.tree.cells cell).uses in
      let there : slice_get uses k ≡ Some entry =
      ap (λ (all : List (List ℕ × UseBody)). slice_get all k) (sym (uses_here library lawful cell below)) ∙ at in
      let child : used.child.0 < length library.tree.cells = child_below library lawful cell below k entry there in
      let has : Some hull ≡ (size_at sizes used.child.0).hull = hull_seen library lawful used.child.0 (Some hull) (omega arith) is in
      let from = In-map_source (element_transform used.placed) element (displacements used.grid) among in
      let step = from.0 in
      let box = rect_image used.placed (displaced hull step) in
      let stands : In box (hulls_below (size_at sizes) uses) =
      among_boxes (size_at sizes) uses k entry box there
      (In-element_hulls used (size_at sizes used.child.0).hull hull step (sym has) from.1.0) in
      let lawful_box : IsLawfulBox box =
      All-In IsLawfulBox (hulls_below (size_at sizes) uses) box
      (boxes_are_lawful library.tree lawful.tree cell (cell_below library lawful cell below)) stands in
      let image : SpansInRange (rect_image element hull) =
      subst (λ (e : Transform). SpansInRange (rect_image e hull)) from.1.1
      (subst SpansInRange (sym (element_image used.placed step hull)) lawful_box.spans) in
      near_by_orient element.orient element.dx element.dy hull (subst IsHullInRange (sym has) (lawful.tree.sizes.within Hull used.child.0)) image

  -- its name is plain
  pub name_is_plain : is_plain_name (view_at (seen library) cell).name ≡ true
  name_is_plain =
      ap (λ (view : CellView). is_plain_name view.name) (cell_viewed library.contents (uses_in library.tree.cells) cell below)
      ∙ (lawful.each cell no_held below).name
