-- What a cell of a lawful library has fits a text.
use Rattle.mag_text.proofs.Common.{◌≡◌, ◌<◌, ℕ, ℤ, suc, true, false, List, [], ◌∷◌, ◌++◌, length, map, Option, Some, None, FitsSigned, inl, inr}
use Rattle.mag_text.proofs.Common.{refl, sym, ap, subst, ◌∙◌, arith, IfSome, IsTrue, slice_get, AllByRecursion, bytes_eq, same_text, cases_Bool}
use Rattle.mag_text.proofs.Common.{and_from, nat_tests, ints, In, Distinct, Grid, Rect, matrix, is_orientation, is_plain_name, Layout, is_coordinate}
use Rattle.mag_text.proofs.Common.{is_in_range, CellUse, IsLabel, is_use_id, are_few_elements, is_grid, is_placing, is_scale_number, UseBody}
use Rattle.mag_text.proofs.Common.{cell_is, LibraryParts, IsLawfulLibrary, IsLawfulScale, seen, uses_in, CellView, LibraryView, view_at, held_lawful}
use Rattle.mag_text.proofs.Common.{cell_viewed, WrittenUse, IsWrittenUse, AreWrittenUses, IsCellText, has_id, IsWritableUse, IsPaintInRange}
use Rattle.mag_text.proofs.Common.{FitsText, IsReadAs, AreNew, use_of}
use Rattle.std.specs.Int.{w32}
use Rattle.std.proofs.lemmas.Option.{slice_get_within, get_or_from_slice_get}
use Rattle.geo_core.specs.declared.transforms.Transform.{Transform}
use Rattle.geo_core.specs.Images.{six_of}
use Rattle.tech_model.specs.declared.raw.Label.{Label}
use Rattle.cell_library.specs.CellBodies.Numbers.{is_displacement, are_displacements, is_index}
use Rattle.geo_core.proofs.OrientationLaws.{is_orientation-six_of}
use Rattle.cell_tree.specs.declared.sizes.Dimension.TheVariants.{Hull}
use Rattle.cell_tree.specs.declared.sizes.Size.{Size}
use Rattle.cell_tree.specs.Hulls.{IsPaintable as IsCoordinate, SpansInRange, IsLawfulBox}
use Rattle.cell_tree.specs.Sizes.{CellState, AreSizes, IsHullInRange, size_at}
use Rattle.cell_tree.specs.Trees.{cell_at, empty_cell}
use Rattle.cell_tree.specs.Uses.{IsShift, IsLawfulGrid, IsLawfulUse}
use Rattle.cell_library.specs.Libraries.{HasUseIds}
use Rattle.cell_library.specs.Limits.{HullIs}
use Rattle.cell_library.specs.OwnBoxes.{OwnBoxIs}
use Rattle.cell_library.proofs.LimitLaws.{states_unique}
use Rattle.cell_library.proofs.SizeLaws.{one_size, tree_children}
use Rattle.cell_library.proofs.UseEdits.{uses_here, cell_below, ids_differ}
use Rattle.cell_library.proofs.ViewLaws.{state_there}
use Rattle.mag_text.proofs.CellTextLaws.{labels_lawful, use_lawful}
use Rattle.mag_text.proofs.LawfulLines.{grid-is}
use Rattle.mag_text.proofs.StripLaws.{by_places, read-written}
use Rattle.mag_text.proofs.UseIdLaws.{has_id-push}

-- ---- numbers within their limits pass the tests of their forms

coordinate_test : (z : ℤ) → IsCoordinate z → is_coordinate z ≡ true
coordinate_test z is = grind (arith, ints)

range_test : (area : Rect) → SpansInRange area → is_in_range area ≡ true
range_test area is =
    let xlo = coordinate_test area.xlo is.xlo in
    let ylo = coordinate_test area.ylo is.ylo in
    let xhi = coordinate_test area.xhi is.xhi in
    let yhi = coordinate_test area.yhi is.yhi in
    rw (xlo, ylo, xhi, yhi) refl

displacement_test : (z : ℤ) → IsShift z → is_displacement z ≡ true
displacement_test z is = grind (arith, ints)

index_test : (z : ℤ) → FitsSigned w32 z → is_index z ≡ true
index_test z is = grind (arith, ints)

grid_test : (grid : Grid) → IsLawfulGrid grid → is_grid grid ≡ true
grid_test grid is =
    let count = is.lawful.count in
    let few : are_few_elements grid.xlo grid.xhi grid.ylo grid.yhi ≡ true = grind (arith, nat_tests) in
    grid-is grid.xlo grid.xhi grid.xsep grid.ylo grid.yhi grid.ysep (index_test grid.xlo is.lawful.xlo) (index_test grid.xhi is.lawful.xhi)
    (displacement_test grid.xsep is.xsep) (index_test grid.ylo is.lawful.ylo) (index_test grid.yhi is.lawful.yhi)
    (displacement_test grid.ysep is.ysep) few

placing_test : (t : Transform) → IsShift t.dx → IsShift t.dy → is_placing (six_of t) ≡ true
placing_test t dx dy =
    and_from (are_displacements t.dx t.dy) (is_orientation (matrix t.orient).a (matrix t.orient).b (matrix t.orient).d (matrix t.orient).e)
    (and_from (is_displacement t.dx) (is_displacement t.dy) (displacement_test t.dx dx) (displacement_test t.dy dy))
    (is_orientation-six_of t (matrix t.orient).a (matrix t.orient).b t.dx (matrix t.orient).d (matrix t.orient).e t.dy refl)

grid_option : (grid : Option Grid) → ((g : Grid) → grid ≡ Some g → IsLawfulGrid g) → IfSome grid (λ g. IsTrue (is_grid g))
grid_option None is = tt
grid_option (Some grid) is = grid_test grid (is grid refl)

hull_option : (hull : Option Rect) → IsHullInRange hull → IfSome hull (λ area. IsTrue (is_in_range area))
hull_option None is = tt
hull_option (Some area) is = range_test area is

own_in_range : (own : Layout) (labels : List Label) (box : Option Rect) → OwnBoxIs own labels box
    → ((area : Rect) → box ≡ Some area → IsLawfulBox area) → IsPaintInRange own
own_in_range own labels None none is place material = absurd (none (inl (place, material)))
own_in_range own labels (Some box) own_is is place material =
    let covers = own_is.holds.material place material in
    let spans = (is box refl).spans in
    record {
      right_of_xlo = omega (arith, ints, covers.right_of_xlo, spans.xlo.low);
      left_of_xhi = omega (arith, ints, covers.left_of_xhi, spans.xhi.high);
      above_ylo = omega (arith, ints, covers.above_ylo, spans.ylo.low);
      below_yhi = omega (arith, ints, covers.below_yhi, spans.yhi.high);
    }

-- ---- ids that differ are new one after another

new_ids : (view : LibraryView) (uses : List CellUse) (entries : List (List ℕ × UseBody)) (written : List WrittenUse)
    → AreWrittenUses view entries written
    → Distinct (map (λ entry. entry.0) entries) → ((id : List ℕ) → In id (map (λ entry. entry.0) entries) → has_id id uses ≡ false)
    → AreNew uses written
new_ids view uses [] [] are differ new = tt
new_ids view uses [] (one ∷ written) are differ new = absurd are
new_ids view uses (entry ∷ entries) [] are differ new = absurd are
new_ids view uses (entry ∷ entries) (one ∷ written) are differ new =
    let is : one.id.now ≡ entry.0 = are.0.id in (
      ap (λ (id : List ℕ). has_id id uses) is ∙ new entry.0 (inl refl),
      new_ids view (uses ++ use_of one ∷ []) entries written are.1 differ.1 (λ id there. elim (cases_Bool (bytes_eq id one.id.now)) [
        | inl same ↦ absurd (differ.0 (subst (λ (word : List ℕ). In word (map (λ e. e.0) entries)) (same_text id one.id.now (sym same) ∙ is) there))
        | inr other ↦ (let before = new id (inr there) in has_id-push id uses (use_of one) ∙ rw (before, other) refl)
      ]),
    )

-- ---- a cell of a lawful library

module _ (library : LibraryParts) (lawful : IsLawfulLibrary library) where
  name_plain : (cell : ℕ) → cell < length library.contents → IsTrue (is_plain_name (view_at (seen library) cell).name)
  name_plain cell below =
      subst (λ (view : CellView). IsTrue (is_plain_name view.name)) (sym (cell_viewed library.contents (uses_in library.tree.cells) cell below))
      (held_lawful library lawful cell below).name

  hull_fits : (cell : ℕ) (hull : Option Rect) → cell < length library.contents → HullIs (seen library) cell hull
      → IfSome hull (λ area. IsTrue (is_in_range area))
  hull_fits cell hull below is =
      let tree = library.tree in
      let same : is.states ≡ tree.cells = states_unique (seen library).cells is.states tree.cells is.are_states lawful.boxes in
      let right : AreSizes tree.cells is.sizes = subst (λ (cells : List CellState). AreSizes cells is.sizes) same is.are_sizes in
      let one = one_size tree.cells is.sizes tree.sizes (tree_children tree lawful.tree) right lawful.tree.sizes.right cell
      (cell_below library lawful cell below) in
      let within : IsHullInRange (size_at is.sizes cell).hull =
      subst (λ (size : Size). IsHullInRange size.hull) (sym one) (lawful.tree.sizes.within Hull cell) in
      hull_option hull (subst IsHullInRange (sym is.is) within)

  use_fits : (entry : List ℕ × UseBody) (written : WrittenUse) → IsLawfulUse entry.1 → entry.1.child.0 < length library.contents
      → IsTrue (is_use_id entry.0)
      → IsWrittenUse (seen library) entry written → IsWritableUse written
  use_fits entry written used below id is = record {
    cell = subst (λ (word : List ℕ). IsTrue (is_plain_name word)) (sym is.cell) (name_plain entry.1.child.0 below);
    id = subst (λ (word : List ℕ). IsTrue (is_use_id word)) (sym is.id) id;
    six = subst (λ (six : List ℤ). IsTrue (is_placing six)) (sym is.six) (placing_test entry.1.placed used.dx used.dy);
    grid = subst (λ (grid : Option Grid). IfSome grid (λ g. IsTrue (is_grid g))) (sym is.grid) (grid_option entry.1.grid used.grid);
    hull = hull_fits entry.1.child.0 written.hull below is.hull;
  }

  uses_fit : (entries : List (List ℕ × UseBody)) (written : List WrittenUse)
      → ((k : ℕ) (entry : List ℕ × UseBody) → slice_get entries k ≡ Some entry
      → IsLawfulUse entry.1 × (entry.1.child.0 < length library.contents) × IsTrue (is_use_id entry.0))
      → AreWrittenUses (seen library) entries written → AllByRecursion IsWritableUse written
  uses_fit [] [] each are = tt
  uses_fit [] (one ∷ written) each are = absurd are
  uses_fit (entry ∷ entries) [] each are = absurd are
  uses_fit (entry ∷ entries) (one ∷ written) each are =
      let here = each 0 entry refl in
      (use_fits entry one here.0 here.1 here.2 are.0, uses_fit entries written (λ k. each (suc k)) are.1)

  module _ (cell : ℕ) (below : cell < length library.contents) where
    id_fits : (k : ℕ) (entry : List ℕ × UseBody) → slice_get (view_at (seen library) cell).uses k ≡ Some entry → IsTrue (is_use_id entry.0)
    id_fits k entry there =
        let uses = (cell_at library.tree.cells cell).uses in
        let at : slice_get uses k ≡ Some entry =
        ap (λ (list : List (List ℕ × UseBody)). slice_get list k) (sym (uses_here library lawful cell below)) ∙ there in
        let all : HasUseIds (cell_at library.tree.cells cell) = lawful.ids cell empty_cell (cell_below library lawful cell below) in
        subst (λ (e : List ℕ × UseBody). IsTrue (is_use_id e.0)) (get_or_from_slice_get uses k entry entry at)
        (all k entry (slice_get_within uses k entry at))

    own_fits : IsPaintInRange (view_at (seen library) cell).own
    own_fits =
        let inside = cell_below library lawful cell below in
        own_in_range (view_at (seen library) cell).own (view_at (seen library) cell).labels (cell_at library.tree.cells cell).own
        (state_there (seen library).cells library.tree.cells cell lawful.boxes inside)
        (lawful.tree.each cell (cell_at library.tree.cells cell) (cell_is library.tree.cells cell inside)).own

    ids_new : (written : List WrittenUse) → AreWrittenUses (seen library) (view_at (seen library) cell).uses written → AreNew [] written
    ids_new written are =
        new_ids (seen library) [] (cell_at library.tree.cells cell).uses written
        (subst (λ (list : List (List ℕ × UseBody)). AreWrittenUses (seen library) list written) (uses_here library lawful cell below) are)
        (ids_differ library lawful cell below) (λ id there. refl)

    scale_fits : (scale : ℕ × ℕ) → library.scale ≡ Some scale → IsTrue (is_scale_number scale.0) × IsTrue (is_scale_number scale.1)
    scale_fits scale is =
        let some : IsLawfulScale (Some scale) (length library.contents) =
        subst (λ (s : Option (ℕ × ℕ)). IsLawfulScale s (length library.contents)) is lawful.scale in
        (some.1, some.2)

    -- what its text was written from fits a text
    pub cell_fits : (scale : ℕ × ℕ) (uses : List WrittenUse) → library.scale ≡ Some scale
        → AreWrittenUses (seen library) (view_at (seen library) cell).uses uses
        → FitsText library.tech scale (view_at (seen library) cell).own uses (view_at (seen library) cell).labels
    cell_fits scale uses is are = record {
      well_formed = lawful.well_formed;
      numerator = (scale_fits scale is).0;
      denominator = (scale_fits scale is).1;
      range = own_fits;
      uses_fit =
          uses_fit (view_at (seen library) cell).uses uses
          (λ k entry there. let is_use = use_lawful library cell k entry lawful below there in (is_use.0, is_use.1, id_fits k entry there)) are;
      ids_differ = ids_new uses are;
      labels_fit = by_places (IsLabel library.tech) (view_at (seen library) cell).labels (labels_lawful library cell lawful below);
    }

    -- and its text is read as that
    pub cell_text-read : (text : List ℕ) → (is : IsCellText (seen library) cell text)
        → IsReadAs library.tech is.scale (view_at (seen library) cell).own is.uses (view_at (seen library) cell).labels text
    cell_text-read text is =
        read-written library.tech is.scale (view_at (seen library) cell).own is.uses (view_at (seen library) cell).labels text
        (cell_fits is.scale is.uses is.has_scale is.are_uses) is.written
