-- Sums and first faults along the elements of a tree.
use Rattle.std.proofs.Common.{◌≡◌, ℕ, ◌<◌, List, [], length, map, get_or, refl, sym, ◌∙◌, ap, arith, sum_by, pos, Bool, cond, nat_lt}
use Rattle.ext_model.specs.GeoCore.declared.orients.Orient.TheVariants.{R0}
use Rattle.std.specs.Prelude.{Some, None, Option, slice_get, slice_index}
use Rattle.std.specs.Option.{option_map}
use Rattle.std.proofs.lemmas.List.{length-map}
use Rattle.std.proofs.lemmas.Option.{slice_get-get_or, get_or_from_slice_get, slice_get-map, slice_get_within, slice_get_read, same_Some}
use Rattle.finite_sets.proofs.Sums.{sum_by-pointwise}
use Rattle.finite_sets.proofs.Firsts.{first_some-none, first_some-at}
use Rattle.finite_sets.proofs.Places.{slice_get-In, slice_get-In_take}
use Rattle.ext_model.specs.declared.records.CellExt.{CellExt}
use Rattle.circuit_model.specs.declared.faults.FlatFault.{FlatFault}
use Rattle.circuit_model.specs.Elements.{Element, elements_of}
use Rattle.circuit_model.specs.declared.faults.FlatFault.TheVariants.{TooMany}
use Rattle.circuit_model.specs.declared.limits.CircuitLimit.{CircuitLimit}
use Rattle.circuit_model.specs.Refusals.{first_fault, past}
use Rattle.element_tree.specs.declared.tree.TreeElement.{TreeElement}
use Rattle.element_tree.specs.declared.tree.ElementTree.{ElementTree}
use Rattle.element_tree.specs.Trees.{StandsFor, IsTreeOfElements, IsTreeOf}

abbrev no_element : Element
no_element = record { uses = []; ext = record { cell = []; tech = []; classes = []; uses = []; nodes = []; fets = []; merges = [] } }

-- What the tree has at a number is true of the element there.
pub record Stands (exts : List CellExt) (elements : List Element) (number : ℕ) (flat : TreeElement) : Type 0 where
  pub element : Element
  pub is : slice_get elements number ≡ Some element
  pub for : StandsFor exts element flat

stands_at : (exts : List CellExt) (elements : List Element) (tree : ElementTree) → IsTreeOfElements exts elements tree → (number : ℕ) (flat : TreeElement)
    → slice_get tree.elements number ≡ Some flat → Stands exts elements number flat
stands_at exts elements tree are number flat has =
    let within : number < length tree.elements = slice_get_within tree.elements number flat has in
    let inside : number < length elements = omega (arith, within, are.long) in
    let element : Element = get_or elements number no_element in
    let is : slice_get elements number ≡ Some element = slice_get-get_or elements number no_element inside in
    record { element = element; is = is; for = are.elements_are number element flat (record { is = is; has = has }) }

-- what a map has at the place of a thing
index-map : {X : Type 0} (f : X → ℕ) (xs : List X) (i : ℕ) (x : X) → slice_get xs i ≡ Some x → slice_index (map f xs) i ≡ f x
index-map f xs i x is = get_or_from_slice_get (map f xs) i (f x) 0 (slice_get-map f xs i ∙ ap (option_map f) is)

-- what the sizes of the records of a tree's elements add up to
sum_of_sizes : (size_of : CellExt → ℕ) (exts : List CellExt) (elements : List Element) (tree : ElementTree) → IsTreeOfElements exts elements tree
    → sum_by (λ flat. slice_index (map size_of exts) flat.cell) tree.elements ≡ sum_by (λ element. size_of element.ext) elements
sum_of_sizes size_of exts elements tree are =
    sum_by-pointwise (λ (flat : TreeElement). slice_index (map size_of exts) flat.cell)
    (λ (element : Element). size_of element.ext) tree.elements elements are.long
    (λ k flat element has is. index-map size_of exts flat.cell element.ext (are.elements_are k element flat (record { is = is; has = has })).record_)

-- so where the root has the record
sum_at : (size_of : CellExt → ℕ) (exts : List CellExt) (root : ℕ) (tree : ElementTree) → IsTreeOf exts root tree
    → (sizes : List ℕ) → sizes ≡ map size_of exts → (flats : List TreeElement) → flats ≡ tree.elements → (top : CellExt) → slice_get exts root ≡ Some top
    → sum_by (λ flat. slice_index sizes flat.cell) flats ≡ sum_by (λ element. size_of element.ext) (elements_of exts top)
sum_at size_of exts root tree are sizes sized flats all top is =
    ap (λ (l : List ℕ). sum_by (λ (flat : TreeElement). slice_index l flat.cell) flats) sized
    ∙ ap (sum_by (λ (flat : TreeElement). slice_index (map size_of exts) flat.cell)) all ∙ sum_of_sizes size_of exts (elements_of exts top) tree (are top is)

-- no thing has a fault
pub no_first_fault : {X : Type 0} (fault_of : X → Option FlatFault) (xs : List X) → ((k : ℕ) (x : X) → slice_get xs k ≡ Some x → fault_of x ≡ None)
    → first_fault fault_of xs ≡ None
no_first_fault fault_of xs none = first_some-none fault_of xs (λ x here. let at = slice_get-In x xs here in none at.0 x at.1)

-- the first thing that has a fault
pub first_fault_at : {X : Type 0} (fault_of : X → Option FlatFault) (xs : List X) (k : ℕ) (x : X) (fault : FlatFault) → slice_get xs k ≡ Some x
    → ((j : ℕ) (y : X) → j < k → slice_get xs j ≡ Some y → fault_of y ≡ None) → fault_of x ≡ Some fault → first_fault fault_of xs ≡ Some fault
first_fault_at fault_of xs k x fault at none has =
    first_some-at fault_of xs k x fault at (λ y here. let before = slice_get-In_take xs k y here in none before.0 y before.1.0 before.1.1) has

abbrev pub no_flat : TreeElement
no_flat = record { cell = 0; parent = 0; at = 0; depth = 0; bytes = 0; rank = 0; to_root = record { orient = R0; dx = pos 0; dy = pos 0 } }

-- the record of each element of a tree is one of all
pub cell_within : (exts : List CellExt) (root : ℕ) (tree : ElementTree) → root < length exts → IsTreeOf exts root tree → (flat : TreeElement) (number : ℕ)
    → slice_get tree.elements number ≡ Some flat → flat.cell < length exts
cell_within exts root tree inside are flat number has =
    let top : CellExt = get_or exts root no_element.ext in
    let is : slice_get exts root ≡ Some top = slice_get-get_or exts root no_element.ext inside in
    let here = stands_at exts (elements_of exts top) tree (are top is) number flat has in
    slice_get_within exts flat.cell here.element.ext here.for.record_

-- The element of a number has this record.
pub record HasRecord (elements : List Element) (number : ℕ) (ext : CellExt) : Type 0 where
  pub element : Element
  pub is : slice_get elements number ≡ Some element
  pub has : element.ext ≡ ext

-- the record that is read for an element of a tree is the element's
pub record_at : (exts : List CellExt) (root : ℕ) (tree : ElementTree) → root < length exts → IsTreeOf exts root tree
    → (flats : List TreeElement) → flats ≡ tree.elements → (number : ℕ) → number < length flats
    → (ext : CellExt) → ext ≡ get_or exts (get_or flats number no_flat).cell ext → (top : CellExt) → slice_get exts root ≡ Some top
    → HasRecord (elements_of exts top) number ext
record_at exts root tree inside are flats all number within ext read top is =
    let flat = get_or flats number no_flat in
    let has : slice_get tree.elements number ≡ Some flat =
    ap (λ (l : List TreeElement). slice_get l number) (sym all) ∙ slice_get-get_or flats number no_flat within in
    let here = stands_at exts (elements_of exts top) tree (are top is) number flat has in
    let found : slice_get exts flat.cell ≡ Some ext =
    slice_get_read exts (length exts) flat.cell ext refl (cell_within exts root tree inside are flat number has) read in
    record { element = here.element; is = here.is; has = same_Some here.element.ext ext (sym here.for.record_ ∙ found) }

-- each element's size can be read
pub size_within : (size_of : CellExt → ℕ) (exts : List CellExt) (root : ℕ) (tree : ElementTree) → root < length exts → IsTreeOf exts root tree
    → (sizes : List ℕ) → sizes ≡ map size_of exts → (flats : List TreeElement) → flats ≡ tree.elements → (k : ℕ) (d : TreeElement) → k < length flats
    → (get_or flats k d).cell < length sizes
size_within size_of exts root tree inside are sizes sized flats all k d within =
    let has : slice_get tree.elements k ≡ Some (get_or flats k d) =
    ap (λ (l : List TreeElement). slice_get l k) (sym all) ∙ slice_get-get_or flats k d within in
    let low = cell_within exts root tree inside are (get_or flats k d) k has in
    let long : length sizes ≡ length exts = ap length sized ∙ length-map exts size_of in
    omega (arith, low, long)

-- the sizes are past a limit exactly where they are told to be
pub past_is : (size_of : CellExt → ℕ) (exts : List CellExt) (root : ℕ) (tree : ElementTree) → IsTreeOf exts root tree
    → (sizes : List ℕ) → sizes ≡ map size_of exts → (flats : List TreeElement) → flats ≡ tree.elements → (most : ℕ) (limit : CircuitLimit) (told : Bool)
    → told ≡ nat_lt most (sum_by (λ flat. slice_index sizes flat.cell) flats) → (top : CellExt) → slice_get exts root ≡ Some top
    → past most limit (sum_by (λ element. size_of element.ext) (elements_of exts top)) ≡ cond told (Some (TooMany limit)) None
past_is size_of exts root tree are sizes sized flats all most limit told is top found =
    ap (λ (t : Bool). cond t (Some (TooMany limit)) None)
    (sym (is ∙ ap (nat_lt most) (sum_at size_of exts root tree are sizes sized flats all top found)))
