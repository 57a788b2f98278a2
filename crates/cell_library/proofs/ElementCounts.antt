-- How many elements the uses of a cell have, and how many parts the cell has.
use Rattle.cell_library.proofs.Common.{◌≡◌, ◌+◌, ◌*◌, ◌<◌, ◌≤◌, ℕ, suc, ℤ, List, [], ◌∷◌, length, drop, sym, ap, subst, ◌∙◌, refl, arith, Some}
use Rattle.cell_library.proofs.Common.{slice_get, drop-slice_get, Transform, RawTech, CellTree, element_parts, parts_in, MOST_ELEMENTS_BELOW}
use Rattle.cell_library.proofs.Common.{Elements, Size, UseBody, CellState, elements_below, size_at, cell_at, displacements, IsLawfulUse, cell_is}
use Rattle.cell_library.proofs.Common.{elements_at, elements_from, tree_to, LibraryParts, IsLawfulLibrary, seen, element_count, LibraryView, view_at}
use Rattle.std.proofs.Math.Nat.{mul-le-mul_left}
use Rattle.cell_bodies.specs.LayoutModel.CellTrees.{Elements as TreeElements}
use Rattle.cell_tree.specs.Sizes.{size_of}
use Rattle.cell_library.proofs.UseEdits.{cell_below, child_below, uses_here}

-- ---- uses one by one

-- the elements of the uses from one on are its own and those of the later ones
pub count_on : (uses : List (List ℕ × UseBody)) (k : ℕ) (id : List ℕ) (body : UseBody) → slice_get uses k ≡ Some (id, body)
    → element_count (drop k uses) ≡ length (displacements body.grid) + element_count (drop (k + 1) uses)
count_on uses k id body is = ap element_count (drop-slice_get uses k (id, body) is)

-- ---- no more elements than the limit

counts_below : (sizes : ℕ → Size) (uses : List (List ℕ × UseBody))
    → ((k : ℕ) (entry : List ℕ × UseBody) → slice_get uses k ≡ Some entry → 1 ≤ (sizes entry.1.child.0).elements)
    → element_count uses ≤ elements_below sizes uses
counts_below sizes [] some = omega arith
counts_below sizes (entry ∷ rest) some =
    let later : element_count rest ≤ elements_below sizes rest = counts_below sizes rest (λ k e is. some (suc k) e is) in
    let here : length (displacements entry.1.grid) * 1 ≤ length (displacements entry.1.grid) * (sizes entry.1.child.0).elements =
    mul-le-mul_left (length (displacements entry.1.grid)) (some 0 entry refl) in
    omega arith

-- the elements of a size that was worked out
pub size_elements : (sizes : ℕ → Size) (cell : CellState) → (size_of sizes cell).elements ≡ suc (elements_below sizes cell.uses)
unfolding size_of
size_elements sizes cell = refl

module _ (library : LibraryParts) (lawful : IsLawfulLibrary library) where
  elements_at_least : (key : ℕ) → key < length library.tree.cells → 1 ≤ (size_at library.tree.sizes key).elements
  elements_at_least key below =
      let state = cell_at library.tree.cells key in
      let is : (size_at library.tree.sizes key).elements ≡ suc (elements_below (size_at library.tree.sizes) state.uses) =
      ap (λ (size : Size). size.elements) (lawful.tree.sizes.right key state (cell_is library.tree.cells key below))
      ∙ size_elements (size_at library.tree.sizes) state in
      omega arith

  -- the uses of a cell have fewer elements than there may be below it
  pub few_elements : (cell : ℕ) → cell < length library.contents → element_count (view_at (seen library) cell).uses < MOST_ELEMENTS_BELOW
  few_elements cell below =
      let state = cell_at library.tree.cells cell in
      let sizes = size_at library.tree.sizes in
      let within : (size_at library.tree.sizes cell).elements ≤ MOST_ELEMENTS_BELOW = lawful.tree.sizes.within Elements cell in
      let is : (size_at library.tree.sizes cell).elements ≡ suc (elements_below (size_at library.tree.sizes) state.uses) =
      ap (λ (size : Size). size.elements) (lawful.tree.sizes.right cell state (cell_is library.tree.cells cell
      (cell_below library lawful cell below)))
      ∙ size_elements (size_at library.tree.sizes) state in
      let fewer : element_count state.uses ≤ elements_below (size_at library.tree.sizes) state.uses =
      counts_below (size_at library.tree.sizes) state.uses (λ k entry at.
      elements_at_least entry.1.child.0 (child_below library lawful cell below k entry at)) in
      let count : element_count state.uses < MOST_ELEMENTS_BELOW = omega arith in
      subst (λ (uses : List (List ℕ × UseBody)). element_count uses < MOST_ELEMENTS_BELOW) (sym (uses_here library lawful cell below)) count

  -- the uses of a cell are lawful, and their children are cells
  pub use_is_lawful : (cell : ℕ) → cell < length library.contents → (k : ℕ) (id : List ℕ) (body : UseBody)
      → slice_get (view_at (seen library) cell).uses k ≡ Some (id, body) → IsLawfulUse body × (body.child.0 < length library.contents)
  use_is_lawful cell below k id body is =
      let there : slice_get (cell_at library.tree.cells cell).uses k ≡ Some (id, body) =
      ap (λ (uses : List (List ℕ × UseBody)). slice_get uses k) (sym (uses_here library lawful cell below)) ∙ is in
      let told =
      lawful.tree.cells.uses cell (cell_at library.tree.cells cell)
      (cell_is library.tree.cells cell (cell_below library lawful cell below)) k (id, body) there in
      let many = lawful.so_many in
      let child : body.child.0 < length library.tree.cells = told.1 in
      (told.0, omega arith)

-- ---- parts

count_at : (raw : RawTech) (tree : CellTree) (placed : Transform) (steps : List (ℤ × ℤ)) (rest : TreeElements)
    → length (element_parts raw (elements_at tree placed steps rest)) ≡ length steps + length (element_parts raw rest)
count_at raw tree placed [] rest = omega arith
count_at raw tree placed (step ∷ steps) rest = let later = count_at raw tree placed steps rest in omega arith

count_from : (raw : RawTech) (trees : ℕ → CellTree) (uses : List (List ℕ × UseBody))
    → length (element_parts raw (elements_from trees uses)) ≡ element_count uses
count_from raw trees [] = refl
count_from raw trees (entry ∷ rest) =
    let here = count_at raw (trees entry.1.child.0) entry.1.placed (displacements entry.1.grid) (elements_from trees rest) in
    let later = count_from raw trees rest in
    omega arith

-- a cell has its own paint and its elements as parts
pub part_count : (raw : RawTech) (view : LibraryView) (depth cell : ℕ)
    → length (parts_in raw (tree_to view (suc depth) cell)) ≡ suc (element_count (view_at view cell).uses)
part_count raw view depth cell = ap suc (count_from raw (tree_to view depth) (view_at view cell).uses)
