-- The records of a library's cells are within the limits of circuit files that are read.
use Rattle.workspace.proofs.Common.{◌≡◌, ◌<◌, ℕ, length, map, inl, inr, ap, subst, ◌∙◌, All, length-map, In, ArrayExt, IsLawfulLibrary, LibraryParts}
use Rattle.workspace.proofs.Common.{seen, view_at, IsRecordNow}
use Rattle.std.proofs.Common.{◌≤◌, ℤ, w32, FitsSigned, arith}
use Rattle.std.proofs.lemmas.Int.{ints}
use Rattle.finite_sets.proofs.Members.{In-map_source}
use Rattle.finite_sets.proofs.Places.{slice_get-In}
use Rattle.finite_sets.proofs.Searches.{All-from_In, All-In}
use Rattle.geo_core.specs.declared.orients.Orient.{Orient}
use Rattle.geo_core.specs.declared.orients.Orient.TheVariants.{R0}
use Rattle.geo_core.specs.declared.transforms.Transform.{Transform}
use Rattle.geo_core.specs.Images.{six_of}
use Rattle.geo_core.specs.Orientation.{matrix}
use Rattle.tech_model.specs.declared.raw.ClassRec.{ClassRec}
use Rattle.tech_model.specs.WellFormed.{IsClass}
use Rattle.ext_model.specs.declared.arrays.ArrayUse.{ArrayUse}
use Rattle.ext_reading.specs.declared.limits.TheConstants.{GREATEST_CLASS_VALUE}
use Rattle.ext_reading.specs.ReadBack.{IsReadable}
use Rattle.ext_cache.specs.CellTree.Trees.{cell_at}
use Rattle.ext_cache.specs.CellTree.Uses.{IsShift}
use Rattle.ext_cache.proofs.CellLibrary.ElementCounts.{use_is_lawful}
use Rattle.ext_cache.proofs.CellLibrary.LayoutTreeLaws.{state_is, uses_seen}
use Rattle.ext_cache.specs.LibraryTrees.CellRecords.{library_use, library_uses}

-- the four factors of an orientation fit
record HasShortFactors (o : Orient) : Type 0 where
  a : FitsSigned w32 (matrix o).a
  b : FitsSigned w32 (matrix o).b
  d : FitsSigned w32 (matrix o).d
  e : FitsSigned w32 (matrix o).e

factors : (o : Orient) → HasShortFactors o
factors R0 = record { a = omega (arith, ints); b = omega (arith, ints); d = omega (arith, ints); e = omega (arith, ints) }
factors _ = record { a = omega (arith, ints); b = omega (arith, ints); d = omega (arith, ints); e = omega (arith, ints) }

-- and so does a displacement of a use
shift_fits : (z : ℤ) → IsShift z → FitsSigned w32 z
shift_fits z is = let low = is.low in let high = is.high in omega (arith, ints, low, high)

-- so the six numbers of a use fit
six_fits : (t : Transform) → IsShift t.dx → IsShift t.dy → All (FitsSigned w32) (six_of t)
six_fits t dx dy = All-from_In (FitsSigned w32) (six_of t) each
  where
    each : (z : ℤ) → In z (six_of t) → FitsSigned w32 z
    each z (inl same) = subst (FitsSigned w32) same (factors t.orient).a
    each z (inr (inl same)) = subst (FitsSigned w32) same (factors t.orient).b
    each z (inr (inr (inl same))) = subst (FitsSigned w32) same (shift_fits t.dx dx)
    each z (inr (inr (inr (inl same)))) = subst (FitsSigned w32) same (factors t.orient).d
    each z (inr (inr (inr (inr (inl same))))) = subst (FitsSigned w32) same (factors t.orient).e
    each z (inr (inr (inr (inr (inr (inl same)))))) = subst (FitsSigned w32) same (shift_fits t.dy dy)
    each z (inr (inr (inr (inr (inr (inr none)))))) = absurd none

module _ (library : LibraryParts) (lawful : IsLawfulLibrary library) (cell : ℕ) (below : cell < length library.contents) where
  -- those of the uses of a cell
  numbers_fit : (used : ArrayUse) → In used (library_uses (seen library) cell) → All (FitsSigned w32) used.six
  numbers_fit used here =
      let uses = (view_at (seen library) cell).uses in
      let made = In-map_source (library_use (seen library)) used uses here in
      let entry = made.0 in
      let at = slice_get-In entry uses made.1.0 in
      let is = (use_is_lawful library lawful cell below at.0 entry.0 entry.1 at.1).0 in
      subst (λ (u : ArrayUse). All (FitsSigned w32) u.six) made.1.1 (six_fits entry.1.placed is.dx is.dy)

  -- the values of classes are those of a technology
  values_small : (value : ℕ) → In value (map (λ (class : ClassRec). class.value) library.tech.classes) → value ≤ GREATEST_CLASS_VALUE
  values_small value here =
      let made = In-map_source (λ (class : ClassRec). class.value) value library.tech.classes here in
      let is = All-In (IsClass library.tech) library.tech.classes made.0 lawful.well_formed.classes made.1.0 in
      subst (λ (v : ℕ). v ≤ GREATEST_CLASS_VALUE) made.1.1 is.value

  -- the record of a cell is within the limits
  pub record_is_readable : (ext : ArrayExt) → IsRecordNow (seen library) cell ext → IsReadable ext
  record_is_readable ext now =
      let uses = (view_at (seen library) cell).uses in
      let few = lawful.tree.cells.few cell (cell_at library.tree.cells cell) (state_is library lawful cell below) in
      let same = ap length (uses_seen library lawful cell below) in
      let long : length ext.uses ≡ length uses = ap length now.is.uses ∙ length-map uses (library_use (seen library)) in
      record {
        lawful = now.lawful;
        uses = omega (arith, few, same, long);
        numbers = All-from_In (λ (used : ArrayUse). All (FitsSigned w32) used.six) ext.uses
            (λ used here. numbers_fit used (subst (In used) now.is.uses here));
        values = All-from_In (λ (value : ℕ). value ≤ GREATEST_CLASS_VALUE) ext.classes
            (λ value here. values_small value (subst (In value) now.is.means.classes here));
      }
