-- The names of the elements of a use: they have no slash, tell the use's id, and differ.
use Rattle.library_trees.proofs.Common.{◌≡◌, ℕ, ℤ, true, List, [], ◌∷◌, map, inl, inr, refl, sym, ap, subst, ◌∙◌, Option, Some, None, AllByRecursion}
use Rattle.library_trees.proofs.Common.{Distinct, In, In-map_source, Grid, UseElement, array_element, use_elements}
use Rattle.std.proofs.Common.{pos}
use Rattle.std.specs.Prelude.{int_le}
use Rattle.finite_sets.specs.Range.{integer_range, pairs_of, IsBetween}
use Rattle.finite_sets.proofs.Distincts.{Distinct-map}
use Rattle.finite_sets.proofs.Ranges.{Lists-integer_range, Lists-pairs_of}
use Rattle.ext_model.specs.GeoCore.Elements.{element_of, elements_of, indices, nth_index}
use Rattle.ext_model.proofs.GeoCore.ElementLaws.{nth_either}
use Rattle.ext_model.specs.NodeNames.{slashes_in}
use Rattle.ext_model.specs.ElementNames.{is_use_id, indexed_name}
use Rattle.ext_model.proofs.TextCuts.{front_of, no_slashes}
use Rattle.ext_model.proofs.IndexedNames.{id_of_indexed, id_of_whole, id_whole, indexed_told, indexed_whole}

-- the names of elements
abbrev pub names_in : List UseElement → List (List ℕ)
names_in elements = map (λ (element : UseElement). element.name) elements

-- ---- names have no slash

array_whole : (id : List ℕ) → is_use_id id ≡ true → (elements : List (ℤ × ℤ × ℤ × ℤ))
    → AllByRecursion (λ (element : UseElement). slashes_in element.name ≡ 0) (map (array_element id) elements)
array_whole id is [] = tt
array_whole id is (element ∷ elements) = (indexed_whole id element.0 element.1 is, array_whole id is elements)

-- the names of the elements of a use have no slash
pub names_whole : (id : List ℕ) (grid : Option Grid) → is_use_id id ≡ true
    → AllByRecursion (λ (element : UseElement). slashes_in element.name ≡ 0) (use_elements id grid)
names_whole id None is = (no_slashes id (id_whole id is), tt)
names_whole id (Some grid) is = array_whole id is (elements_of grid)

-- ---- names tell the use's id

-- an opening bracket ends the id in the name of an element
pub names_tell_id : (id : List ℕ) (grid : Option Grid) → is_use_id id ≡ true → (name : List ℕ) → In name (names_in (use_elements id grid))
    → front_of 91 name ≡ id
names_tell_id id None is name (inl same) = sym (ap (front_of 91) same) ∙ id_of_whole id is
names_tell_id id None is name (inr none) = absurd none
names_tell_id id (Some grid) is name listed =
    let named = In-map_source (λ (element : UseElement). element.name) name (map (array_element id) (elements_of grid)) listed in
    let made = In-map_source (array_element id) named.0 (elements_of grid) named.1.0 in
    let element = made.0 in
    sym (ap (front_of 91) named.1.1)
    ∙ sym (ap (λ (e : UseElement). front_of 91 e.name) made.1.1)
    ∙ id_of_indexed id element.0 element.1 is

-- ---- names differ

-- an index tells its number
index_tells : (from to n m : ℤ) → nth_index from to n ≡ nth_index from to m → n ≡ m
index_tells from to n m same = nth_either (int_le from to) from n m same

-- the names of the elements of an array, by the numbers of their indices
array_name : List ℕ → Grid → ℤ × ℤ → List ℕ
array_name id grid place = indexed_name id (nth_index grid.xlo grid.xhi place.1) (nth_index grid.ylo grid.yhi place.0)

array_name_tells : (id : List ℕ) (grid : Grid) (p q : ℤ × ℤ) → is_use_id id ≡ true → array_name id grid p ≡ array_name id grid q → p ≡ q
unfolding array_name
array_name_tells id grid p q is same =
    let told = indexed_told id id (nth_index grid.xlo grid.xhi p.1) (nth_index grid.ylo grid.yhi p.0) (nth_index grid.xlo grid.xhi q.1)
    (nth_index grid.ylo grid.yhi q.0) is is same in
    let row = index_tells grid.ylo grid.yhi p.0 q.0 told.2 in
    let column = index_tells grid.xlo grid.xhi p.1 q.1 told.1 in
    λ i. (row i, column i)

array_names : (id : List ℕ) (grid : Grid) (places : List (ℤ × ℤ))
    → map (array_name id grid) places ≡ names_in (map (array_element id) (map (element_of grid) places))
unfolding array_name
array_names id grid [] = refl
array_names id grid (place ∷ places) =
    ap (λ (names : List (List ℕ)). indexed_name id (nth_index grid.xlo grid.xhi place.1) (nth_index grid.ylo grid.yhi place.0) ∷ names)
    (array_names id grid places)

-- the names of the elements of a use differ
pub names_differ : (id : List ℕ) (grid : Option Grid) → is_use_id id ≡ true → Distinct (names_in (use_elements id grid))
names_differ id None is = (λ none. none, tt)
names_differ id (Some grid) is =
    let rows : List ℤ = integer_range (pos 0) (pos (indices grid.ylo grid.yhi)) in
    let columns : List ℤ = integer_range (pos 0) (pos (indices grid.xlo grid.xhi)) in
    let places : List (ℤ × ℤ) = pairs_of rows columns in
    let high : ℤ = pos (indices grid.ylo grid.yhi) in
    let wide : ℤ = pos (indices grid.xlo grid.xhi) in
    let listed = Lists-pairs_of (IsBetween (pos 0) high) (IsBetween (pos 0) wide) rows columns (Lists-integer_range (pos 0) high)
    (Lists-integer_range (pos 0) wide) in
    subst Distinct (array_names id grid places)
    (Distinct-map (array_name id grid) places (λ p q here there same. array_name_tells id grid p q is same) listed.0)
