-- The names of the elements of uses: they are those of the plain form, those of one use differ, and each is an id or has indices.
use Rattle.ext_reading.proofs.Common.{◌≡◌, ◌⊎◌, ℕ, ℤ, pos, Bool, true, false, cond, Option, List, [], ◌∷◌, ◌++◌, map, FitsSigned, refl, sym, ap, ◌∙◌}
use Rattle.ext_reading.proofs.Common.{subst, arith, inl, inr, IsTrue, Some, None, ◌<ℤ◌, ◌+ℤ◌, ◌-ℤ◌, w32, flat_map, bytes_eq, ints, map-append}
use Rattle.ext_reading.proofs.Common.{bytes_eq-Decides, In, Distinct, In-flat_map_source, In-append_left, In-map_source, list_any-of_absent, Grid}
use Rattle.ext_reading.proofs.Common.{indices, IsLawful, UseRec, ArrayUse, is_use_id, indexed_name, IsIndexed, HasIdForm, plain_uses, uses_of_grid}
use Rattle.ext_reading.proofs.Common.{element_use, indexed_told, UseElements, element_ids, names_in, is_among, gives_again, names_more, elements_of}
use Rattle.std.specs.Prelude.{◌≤ℤ◌, int_le}
use Rattle.finite_sets.specs.Range.{integer_range, pairs_of}
use Rattle.finite_sets.proofs.Distincts.{Distinct-append, Distinct-append_apart, Distinct-map}
use Rattle.finite_sets.proofs.Ranges.{In-pairs_of_first, In-pairs_of_second, Lists-integer_range}
use Rattle.finite_sets.proofs.Searches.{list_any-fails, list_any-In, absent-from_list_any}
use Rattle.geo_core.specs.Elements.{nth_index, element_of, elements_of as elements_of_grid}
use Rattle.geo_core.proofs.ElementLaws.{nth_either, Distinct-elements_of}
use Rattle.ext_reading.proofs.Outcomes.{Each}

-- the names of one use

abbrev pub id_of : UseRec → List ℕ
id_of element = element.id

abbrev Element : Type 0
Element = ℤ × ℤ × ℤ × ℤ

map_twice : (used : ArrayUse) (elements : List Element)
    → map (λ element. indexed_name used.id element.0 element.1) elements ≡ map id_of (map (element_use used) elements)
map_twice used [] = refl
map_twice used (e ∷ elements) = ap (λ l. indexed_name used.id e.0 e.1 ∷ l) (map_twice used elements)

names_of_grid : (used : ArrayUse) (grid : Option Grid) → element_ids used.id grid ≡ map id_of (uses_of_grid used grid)
names_of_grid used None = refl
names_of_grid used (Some grid) = map_twice used (elements_of_grid grid)

-- the names of the elements of uses are those of the uses of the plain form
pub names_given : (uses : List ArrayUse) → names_in (map elements_of uses) ≡ map id_of (flat_map plain_uses uses)
names_given [] = refl
names_given (used ∷ uses) =
    ap (λ l. l ++ names_in (map elements_of uses)) (names_of_grid used used.grid)
    ∙ (ap (λ l. map id_of (plain_uses used) ++ l) (names_given uses) ∙ sym (map-append id_of (plain_uses used) (flat_map plain_uses uses)))

-- elements of a grid with the same indices are one
abbrev places : Grid → List (ℤ × ℤ)
places grid = pairs_of (integer_range (pos 0) (pos (indices grid.ylo grid.yhi))) (integer_range (pos 0) (pos (indices grid.xlo grid.xhi)))

same_element : (grid : Grid) (a b : Element) → In a (elements_of_grid grid) → In b (elements_of_grid grid) → a.0 ≡ b.0 → a.1 ≡ b.1 → a ≡ b
same_element grid a b here there first second =
    let p = In-map_source (element_of grid) a (places grid) here in
    let q = In-map_source (element_of grid) b (places grid) there in
    let across = nth_either (int_le grid.xlo grid.xhi) grid.xlo p.0.1 q.0.1
    (ap (λ (e : Element). e.0) p.1.1 ∙ (first ∙ sym (ap (λ (e : Element). e.0) q.1.1))) in
    let up = nth_either (int_le grid.ylo grid.yhi) grid.ylo p.0.0 q.0.0
    (ap (λ (e : Element). e.1) p.1.1 ∙ (second ∙ sym (ap (λ (e : Element). e.1) q.1.1))) in
    let whole : (p.0.0, p.0.1) ≡ q.0 = rw (across, up) refl in
    sym p.1.1 ∙ (ap (element_of grid) whole ∙ q.1.1)

-- the names of one use differ
pub element_ids-differ : (id : List ℕ) (grid : Option Grid) → HasIdForm grid id → Distinct (element_ids id grid)
element_ids-differ id None form = ((λ h. h), tt)
element_ids-differ id (Some grid) form =
    Distinct-map (λ (e : Element). indexed_name id e.0 e.1) (elements_of_grid grid)
    (λ a b here there same. let told = indexed_told id id a.0 a.1 b.0 b.1 form.0 form.0 same in same_element grid a b here there told.1 told.2)
    (Distinct-elements_of grid)

-- the indices of a lawful grid
nth_fits : (from to n : ℤ) → FitsSigned w32 from → FitsSigned w32 to → pos 0 ≤ℤ n → n <ℤ pos (indices from to) → FitsSigned w32 (nth_index from to n)
nth_fits from to n one two low high = step (int_le from to) refl
  where
    step : (up : Bool) → int_le from to ≡ up → FitsSigned w32 (cond up (from +ℤ n) (from -ℤ n))
    step true upward = grind (arith, ints)
    step false downward = grind (arith, ints)

element_fits : (grid : Grid) → IsLawful grid → (e : Element) → In e (elements_of_grid grid) → FitsSigned w32 e.0 × FitsSigned w32 e.1
element_fits grid lawful e here =
    let p = In-map_source (element_of grid) e (places grid) here in
    let rows = integer_range (pos 0) (pos (indices grid.ylo grid.yhi)) in
    let columns = integer_range (pos 0) (pos (indices grid.xlo grid.xhi)) in
    let row = (Lists-integer_range (pos 0) (pos (indices grid.ylo grid.yhi))).2 p.0.0 (In-pairs_of_first p.0 rows columns p.1.0) in
    let column = (Lists-integer_range (pos 0) (pos (indices grid.xlo grid.xhi))).2 p.0.1 (In-pairs_of_second p.0 rows columns p.1.0) in (
      subst (FitsSigned w32) (ap (λ (e : Element). e.0) p.1.1) (nth_fits grid.xlo grid.xhi p.0.1 lawful.xlo lawful.xhi column.0 column.1),
      subst (FitsSigned w32) (ap (λ (e : Element). e.1) p.1.1) (nth_fits grid.ylo grid.yhi p.0.0 lawful.ylo lawful.yhi row.0 row.1),
    )

-- a name of an element is an id, with indices or without
abbrev pub IsElementName : List ℕ → Type 0
IsElementName name = IsTrue (is_use_id name) ⊎ IsIndexed name

element_form : (id : List ℕ) (grid : Option Grid) → HasIdForm grid id → Each IsElementName (element_ids id grid)
element_form id None form name (inl e) = subst IsElementName e form
element_form id None form name (inr none) = absurd none
element_form id (Some grid) form name here =
    let made = In-map_source (λ (e : Element). indexed_name id e.0 e.1) name (elements_of_grid grid) here in
    let fits = element_fits grid form.1 made.0 made.1.0 in
    inr (record { id = id; i = made.0.0; j = made.0.1; id_form = form.0; i_fits = fits.0; j_fits = fits.1; text = sym made.1.1 })

-- the uses have ids of their form
abbrev pub HaveForms : List UseElements → Type 0
HaveForms uses = Each (λ used. HasIdForm used.grid used.id) uses

pub names_formed : (uses : List UseElements) → HaveForms uses → Each IsElementName (names_in uses)
names_formed uses forms name here =
    let found = In-flat_map_source (λ (used : UseElements). element_ids used.id used.grid) name uses here in
    element_form found.0.id found.0.grid (forms found.0 found.1.0) name found.1.1

-- one use more

pub distinct_push : (uses : List UseElements) (used : UseElements) → Distinct (names_in uses) → HasIdForm used.grid used.id → gives_again uses used ≡ false
    → Distinct (names_in (uses ++ used ∷ []))
distinct_push uses used differ form new =
    let names = element_ids used.id used.grid in
    subst Distinct (sym (names_more uses used))
    (Distinct-append (names_in uses) names differ (element_ids-differ used.id used.grid form)
    (λ name old there. absent-from_list_any bytes_eq bytes_eq-Decides name (names_in uses)
    (list_any-In (λ n. is_among n (names_in uses)) names name new there) old))

-- a use whose names differ from those of the others gives none of them again
pub new_use : (uses : List UseElements) (used : UseElements) (others : List (List ℕ))
    → Distinct (names_in uses ++ (element_ids used.id used.grid ++ others)) → gives_again uses used ≡ false
new_use uses used others differ =
    let names = element_ids used.id used.grid in
    list_any-fails (λ n. is_among n (names_in uses)) names (λ name there.
    list_any-of_absent bytes_eq bytes_eq-Decides name (names_in uses) (λ old.
    Distinct-append_apart (names_in uses) (names ++ others) differ name old (In-append_left name names others there)))
