-- Columns of measures are the measures of regions.
use Rattle.measures.proofs.Common.{◌≡◌, ℕ, ◌<◌, ℤ, pos, List, [], ◌∷◌, ◌++◌, map, take, length, get_or, refl, sym, ◌∙◌, ap, subst, arith, All, In}
use Rattle.measures.proofs.Common.{Lists, ClassRec, Contact, RegionTile, Layout, area_at, perimeter_at, IsArea, IsPerimeter, AreMeasures}
use Rattle.measures.proofs.Common.{AreLayoutTiles, AreMeasured, class_of, Column, IsColumn, AreColumns, pairs_at}
use Rattle.std.proofs.Common.{suc, ◌+◌, Bool, true, false, eqb, IsTrue, inl, inr}
use Rattle.std.specs.List.{list_any}
use Rattle.std.proofs.lemmas.Bool.{cases_Bool, cases_lt, false≢true}
use Rattle.std.proofs.lemmas.List.{get_or-take, get_or_append_left, get_or_default, get_or_push, length-append, length-take-le}
use Rattle.std.proofs.lemmas.Option.{get_or_from_slice_get, slice_get_within}
use Rattle.geo_core.proofs.FiniteSets.Members.{In-index}
use Rattle.geo_core.proofs.FiniteSets.Totals.{Total-at, Total-iff}
use Rattle.geo_core.proofs.FiniteSets.Searches.{list_any-fails}
use Rattle.tech_model.specs.declared.raw.RawTech.{RawTech}
use Rattle.tech_model.specs.declared.raw.TypeId.{TypeId}
use Rattle.tech_model.specs.Types.{is_type}
use Rattle.tech_model.specs.WellFormed.{IsClass, IsWellFormed}
use Rattle.layout_model.specs.Places.{Place}
use Rattle.layout_model.specs.RegionTiles.{IsInRegion}
use Rattle.flood_nodes.specs.TileShares.{no_tile, tile_at, IsTileContact, IsInTiles}
use Rattle.flood_nodes.proofs.OpenEdges.{tiles_area, tiles_measure}
use Rattle.flood_nodes.proofs.ShareLaws.{one_plane}
use Rattle.flood_nodes.proofs.StackLaws.{same_from_test}
use Rattle.measures.proofs.AmountLaws.{from, area_sum, open_sum}

-- space is of no class
no_space : (raw : RawTech) (types : List TypeId) → ((t : TypeId) → In t types → IsTrue (is_type raw t.0)) → list_any (λ (t : TypeId). eqb t.0 0) types ≡ false
no_space raw types each = list_any-fails (λ (t : TypeId). eqb t.0 0) types (λ t here. elim (cases_Bool (eqb t.0 0)) [
  | inl zero_test ↦ absurd (zero_is_none t.0 (each t here) (same_from_test t.0 0 zero_test))
  | inr other ↦ other
])
  where
    zero_is_none : (k : ℕ) → IsTrue (is_type raw k) → k ≡ 0 → ⊥
    zero_is_none k is e = false≢true (subst (λ (n : ℕ). is_type raw n ≡ true) e is)

pub space_out : (raw : RawTech) (class : ClassRec) → IsClass raw class → (class_of class).contains 0 ≡ false
space_out raw class is = no_space raw class.types (λ t i. let x = In-index t class.types i in
    subst (λ (v : TypeId). IsTrue (is_type raw v.0)) (x.1.1 t) (is.types x.0 t x.1.0))

module _ (layout : Layout) (tiles : List RegionTile) (contacts : List Contact) (count region : ℕ) (are : AreLayoutTiles layout tiles)
    (listed : Lists (IsTileContact tiles) contacts) (below : region < count) where
  in_tiles : (contains : ℕ → Bool) (place : Place) → IsInTiles tiles (from contains tiles region) place → IsInRegion tiles region place
  in_tiles contains place h = record {
    index = h.index;
    lies = h.lies;
    numbered = sym (ap (λ (t : RegionTile). t.region) (get_or_from_slice_get tiles h.index h.lies.tile no_tile h.lies.there))
        ∙ same_from_test (tile_at tiles h.index).region region h.passes;
  }

  in_region : (contains : ℕ → Bool) (place : Place) → IsInRegion tiles region place → IsInTiles tiles (from contains tiles region) place
  in_region contains place h = record {
    index = h.index;
    lies = h.lies;
    passes = one_plane (tile_at tiles h.index).region region
        (ap (λ (t : RegionTile). t.region) (get_or_from_slice_get tiles h.index h.lies.tile no_tile h.lies.there) ∙ h.numbered);
  }

  column_area : (contains : ℕ → Bool) (column : Column) → IsColumn contains tiles contacts count column
      → IsArea contains layout (IsInRegion tiles region) (get_or column.areas.items region (pos 0))
  column_area contains column is =
      Total-iff (IsInTiles tiles (from contains tiles region)) (IsInRegion tiles region) (area_at contains layout) (get_or column.areas.items region (pos 0))
      (in_tiles contains) (in_region contains)
      (Total-at (IsInTiles tiles (from contains tiles region)) (area_at contains layout) _ (get_or column.areas.items region (pos 0))
      (sym (is.area region below ∙ area_sum contains tiles region)) (tiles_area layout tiles contains (from contains tiles region) are))

  column_perimeter : (contains : ℕ → Bool) (column : Column) → contains 0 ≡ false → IsColumn contains tiles contacts count column
      → IsPerimeter contains layout (IsInRegion tiles region) (get_or column.perimeters.items region (pos 0))
  column_perimeter contains column none is =
      Total-iff (IsInTiles tiles (from contains tiles region)) (IsInRegion tiles region) (perimeter_at contains layout)
      (get_or column.perimeters.items region (pos 0)) (in_tiles contains) (in_region contains)
      (Total-at (IsInTiles tiles (from contains tiles region)) (perimeter_at contains layout) _ (get_or column.perimeters.items region (pos 0))
      (sym (is.perimeter region below ∙ open_sum contains tiles region contacts)) (tiles_measure layout tiles contacts contains (from contains tiles region)
      are listed none))

  -- a pair for each class
  pub columns_measure : (classes : List ClassRec) (columns : List Column) → length columns ≡ length classes
      → ((class : ClassRec) → In class classes → (class_of class).contains 0 ≡ false)
      → ((k : ℕ) (class : ClassRec) (column : Column) → k < length classes → IsColumn (class_of (get_or classes k class)).contains tiles contacts count
      (get_or columns k column))
      → AreMeasures (map class_of classes) layout (IsInRegion tiles region) (pairs_at region columns)
  columns_measure [] [] long none each = tt
  columns_measure [] (c ∷ cs) long none each = absurd (omega (arith, long))
  columns_measure (k ∷ ks) [] long none each = absurd (omega (arith, long))
  columns_measure (k ∷ ks) (c ∷ cs) long none each =
      let first = each 0 k c (omega arith) in (
        column_area (class_of k).contains c first,
        column_perimeter (class_of k).contains c (none k (inl refl)) first,
        columns_measure ks cs (omega (arith, long)) (λ d i. none d (inr i)) (λ j d e less. each (suc j) d e (omega (arith, less))),
      )

-- one column more
pub columns_more : (classes : List ClassRec) (tiles : List RegionTile) (contacts : List Contact) (count i : ℕ) (columns new : List Column) (d : ClassRec)
    (column : Column)
    → i < length classes → AreColumns (take i classes) tiles contacts count columns
    → IsColumn (class_of (get_or classes i d)).contains tiles contacts count column
    → new ≡ columns ++ column ∷ [] → AreColumns (take (i + 1) classes) tiles contacts count new
columns_more classes tiles contacts count i columns new d column inside before is e =
    let many = before.so_many in
    let upto = length-take-le i classes (omega (arith, inside)) in
    let next = length-take-le (i + 1) classes (omega (arith, inside)) in
    let grown = ap length e ∙ length-append columns (column ∷ []) in
    record {
      so_many = omega (arith, many, upto, next, grown);
      each = λ k class other below.
          let early : k < i + 1 = omega (arith, below, next) in
          let at : get_or (take (i + 1) classes) k class ≡ get_or classes k class = get_or-take (i + 1) classes k class early in
          subst (λ (v : ClassRec). IsColumn (class_of v).contains tiles contacts count (get_or new k other)) (sym at)
          (subst (λ (v : List Column). IsColumn (class_of (get_or classes k class)).contains tiles contacts count (get_or v k other)) (sym e)
          (elim (cases_lt k i) [
            | inl less ↦ subst (λ (v : Column). IsColumn (class_of (get_or classes k class)).contains tiles contacts count v)
                (sym (get_or_append_left columns (column ∷ []) other k (omega (arith, less, many, upto))))
                (subst (λ (v : ClassRec). IsColumn (class_of v).contains tiles contacts count (get_or columns k other)) (get_or-take i classes k class less)
                (before.each k class other (omega (arith, less, upto))))
            | inr ge ↦
                (let same : i ≡ k = omega (arith, ge, early) in
                let last : length columns ≡ k = omega (arith, many, upto, same) in
                subst (λ (v : Column). IsColumn (class_of (get_or classes k class)).contains tiles contacts count v) (sym (get_or_push columns column other k
                last))
                (subst (λ (v : ClassRec). IsColumn (class_of v).contains tiles contacts count column)
                (get_or_default classes i d class inside ∙ ap (λ (m : ℕ). get_or classes m class) same) is))
          ]));
    }

-- rows of all regions
pub rows_measure : (raw : RawTech) (layout : Layout) (tiles : List RegionTile) (contacts : List Contact) (count : ℕ) (columns : List Column) (rows : List
    (List (ℤ × ℤ)))
    → IsWellFormed raw → AreLayoutTiles layout tiles → Lists (IsTileContact tiles) contacts → AreColumns raw.classes tiles contacts count columns
    → length rows ≡ count
    → ((k : ℕ) → k < count → get_or rows k [] ≡ pairs_at k columns) → AreMeasured (map class_of raw.classes) layout tiles count rows
rows_measure raw layout tiles contacts count columns rows well are listed have many each = record {
  one_each = many;
  each = λ region row there.
      let within = slice_get_within rows region row there in
      let below : region < count = omega (arith, within, many) in
      let is : pairs_at region columns ≡ row = sym (each region below) ∙ get_or_from_slice_get rows region row [] there in
      subst (AreMeasures (map class_of raw.classes) layout (IsInRegion tiles region)) is
      (columns_measure layout tiles contacts count region are listed below raw.classes columns have.so_many
      (λ class i. let x = In-index class raw.classes i in space_out raw class (subst (IsClass raw) (x.1.1 class) (well.classes x.0 class x.1.0)))
      have.each);
}

-- columns are as long as there are regions
pub columns_long : (classes : List ClassRec) (tiles : List RegionTile) (contacts : List Contact) (count region : ℕ) (columns : List Column) → region < count
    → AreColumns classes tiles contacts count columns
    → All (λ column. region < length column.areas.items) columns × All (λ column. region < length column.perimeters.items) columns
columns_long classes tiles contacts count region columns below have = (
  (λ k d inside. let a = (has k d inside).areas_long in omega (arith, a, below)),
  (λ k d inside. let a = (has k d inside).perimeters_long in omega (arith, a, below)),
)
  where
    some_class : ClassRec
    some_class = record { value = 0; per_area = 0; per_perimeter = 0; types = [] }

    has : (k : ℕ) (d : Column) → k < length columns → IsColumn (class_of (get_or classes k some_class)).contains tiles contacts count (get_or columns k d)
    has k d inside = let many = have.so_many in have.each k some_class d (omega (arith, inside, many))
