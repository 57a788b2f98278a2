-- The uses of a cell as its record has them, and their elements.
use Rattle.element_paths.proofs.Common.{◌≡◌, ℕ, ℤ, pos, zero, suc, ◌+◌, ◌<◌, ◌≤◌, List, [], ◌∷◌, ◌++◌, length, map, take, Some, None, refl, sym, ap}
use Rattle.element_paths.proofs.Common.{◌∙◌, arith, Option, slice_get, ints, length-map, get_or_from_slice_get, slice_get_within, Grid, Transform}
use Rattle.element_paths.proofs.Common.{elements_of, six_of, MOST_ELEMENTS_BELOW, displacements, element_transform, IsLawfulLibrary, LibraryParts}
use Rattle.element_paths.proofs.Common.{seen, element_count, LibraryView, view_at, few_elements, NamedTree, named_elements_in, UseElement}
use Rattle.element_paths.proofs.Common.{array_element, use_elements, library_use, library_uses}
use Rattle.std.proofs.Common.{append_assoc}
use Rattle.std.proofs.Common.{◌+ℤ◌, ◌*ℤ◌}
use Rattle.std.specs.List.{flat_map}
use Rattle.std.proofs.lemmas.List.{take_more}
use Rattle.std.proofs.lemmas.Simd.{map-map}
use Rattle.geo_core.specs.declared.orients.Orient.{Orient}
use Rattle.geo_core.specs.declared.orients.Orient.TheVariants.{R0}
use Rattle.geo_core.specs.Orientation.{matrix}
use Rattle.geo_core.proofs.ElementLaws.{length-elements_of}
use Rattle.ext_model.specs.declared.records.UseRec.{UseRec}
use Rattle.ext_model.specs.Plain.{plain_uses, uses_of_grid}
use Rattle.cell_tree.specs.declared.limits.TheConstants.{MOST_DEPTH}
use Rattle.library_trees.specs.TreeRecords.NamedTrees.{NamedElements, own_body}
use Rattle.library_trees.specs.TreeRecords.TreeRecords.{use_records}
use Rattle.library_trees.specs.NamedCells.{named_elements_at, named_elements_from, named_tree_at, named_tree_to}
use Rattle.library_trees.proofs.WholeTrees.{UsesWithIds, named_tree_unfolds}

-- ---- the first uses

-- with the next of a list, the first of it were added so far
pub added_on : {X : Type 0} (all : List X) (n : ℕ) (next : X) (before so_far after : List X) → slice_get all n ≡ Some next
    → so_far ≡ before ++ take n all → after ≡ so_far ++ next ∷ [] → after ≡ before ++ take (n + 1) all
added_on {X} all n next before so_far after at is more =
    let one_more : take (n + 1) all ≡ take n all ++ next ∷ [] =
    take_more all n next (slice_get_within all n next at) ∙ ap (λ (x : X). take n all ++ x ∷ []) (get_or_from_slice_get all n next next at) in
    more
    ∙ ap (λ (xs : List X). xs ++ next ∷ []) is
    ∙ append_assoc before (take n all) (next ∷ [])
    ∙ ap (λ (xs : List X). before ++ xs) (sym one_more)

-- ---- elements

-- by each orientation, what isn't displaced stays
still : (o : Orient) (dx dy : ℤ) → ((matrix o).a *ℤ pos 0 +ℤ (matrix o).b *ℤ pos 0 +ℤ dx ≡ dx) × ((matrix o).d *ℤ pos 0 +ℤ (matrix o).e *ℤ pos 0 +ℤ dy ≡ dy)
still R0 dx dy = (omega (arith, ints), omega (arith, ints))
still _ dx dy = (omega (arith, ints), omega (arith, ints))

-- so a use without a grid stands where its one element does
still_six : (placed : Transform) → six_of placed ≡ six_of (element_transform placed (pos 0, pos 0))
still_six placed =
    let stays = still placed.orient placed.dx placed.dy in
    λ i. (matrix placed.orient).a ∷ (matrix placed.orient).b ∷ sym stays.0 i ∷ (matrix placed.orient).d ∷ (matrix placed.orient).e ∷ sym stays.1 i ∷ []

-- the record of an element of a use that is placed so, of a cell with this name
abbrev element_record : List ℕ → Transform → UseElement → UseRec
element_record name placed element = record { cell = name; id = element.name; six = six_of (element_transform placed element.step) }

-- the elements of a use as it stands in a record
elements_at : (name id : List ℕ) (placed : Transform) (grid : Option Grid)
    → uses_of_grid (record { cell = name; id = id; six = six_of placed; grid = grid }) grid ≡ map (element_record name placed) (use_elements id grid)
elements_at name id placed None = λ i. record { cell = name; id = id; six = still_six placed i } ∷ []
elements_at name id placed (Some grid) = sym (map-map (element_record name placed) (array_element id) (elements_of grid))

-- the records of elements of one child, and of those behind them
records_behind : (tree : NamedTree) (placed : Transform) (elements : List UseElement) (rest : NamedElements)
    → use_records (named_elements_at tree placed elements rest) ≡ map (element_record (own_body tree).name placed) elements ++ use_records rest
records_behind tree placed [] rest = refl
records_behind tree placed (element ∷ elements) rest =
    ap (λ (records : List UseRec). element_record (own_body tree).name placed element ∷ records) (records_behind tree placed elements rest)

-- what the cell has of its own, as far as its tree is unfolded
name_to : (view : LibraryView) (depth cell : ℕ) → (own_body (named_tree_to view depth cell)).name ≡ (view_at view cell).name
name_to view zero cell = refl
name_to view (suc depth) cell = refl

-- the name of the cell at the top is the cell's
name_at : (view : LibraryView) (cell : ℕ) → (own_body (named_tree_at view cell)).name ≡ (view_at view cell).name
unfolding named_tree_at
name_at view cell = name_to view MOST_DEPTH cell

-- the elements of uses are those of their trees
elements_from : (view : LibraryView) (uses : UsesWithIds)
    → flat_map plain_uses (map (library_use view) uses) ≡ use_records (named_elements_from (named_tree_at view) uses)
elements_from view [] = refl
elements_from view (entry ∷ rest) =
    let tree = named_tree_at view entry.1.child.0 in
    let elements = use_elements entry.0 entry.1.grid in
    ap (λ (own : List UseRec). own ++ flat_map plain_uses (map (library_use view) rest))
    (elements_at (view_at view entry.1.child.0).name entry.0 entry.1.placed entry.1.grid)
    ∙ ap (λ (name : List ℕ). map (element_record name entry.1.placed) elements ++ flat_map plain_uses (map (library_use view) rest))
    (sym (name_at view entry.1.child.0))
    ∙ ap (λ (records : List UseRec). map (element_record (own_body tree).name entry.1.placed) elements ++ records) (elements_from view rest)
    ∙ sym (records_behind tree entry.1.placed elements (named_elements_from (named_tree_at view) rest))

-- element by element the uses of a cell are those of its tree
pub uses_are_elements : (library : LibraryParts) → IsLawfulLibrary library → (cell : ℕ) → cell < length library.contents
    → flat_map plain_uses (library_uses (seen library) cell) ≡ use_records (named_elements_in (named_tree_at (seen library) cell))
uses_are_elements library lawful cell below =
    elements_from (seen library) (view_at (seen library) cell).uses
    ∙ sym (ap (λ (tree : NamedTree). use_records (named_elements_in tree)) (named_tree_unfolds library lawful cell below))

-- ---- how many uses

-- a use has an element
some_element : (grid : Option Grid) → 1 ≤ length (displacements grid)
some_element None = omega arith
some_element (Some grid) =
    let long = length-map {B = ℤ × ℤ} (elements_of grid) (λ (element : ℤ × ℤ × ℤ × ℤ). (element.2, element.3)) in
    let count = length-elements_of grid in
    omega (arith, long, count)

-- there are no more uses than elements
uses_few : (uses : UsesWithIds) → length uses ≤ element_count uses
uses_few [] = omega arith
uses_few (entry ∷ rest) =
    let some = some_element entry.1.grid in
    let later = uses_few rest in
    omega (arith, some, later)

-- a cell has fewer uses than there may be elements below it
pub few_uses : (library : LibraryParts) → IsLawfulLibrary library → (cell : ℕ) → cell < length library.contents
    → length (view_at (seen library) cell).uses < MOST_ELEMENTS_BELOW
few_uses library lawful cell below =
    let few = few_elements library lawful cell below in
    let own = uses_few (view_at (seen library) cell).uses in
    omega (arith, few, own)
