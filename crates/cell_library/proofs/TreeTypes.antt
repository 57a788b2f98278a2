-- The types of the tree of a cell are those of the technology.
use Rattle.cell_library.proofs.Common.{◌≡◌, ◌≤◌, inl, inr, ℕ, zero, suc, ℤ, List, [], ◌∷◌, length, sym, ap, subst, arith, All, cases_lt, get_or_past}
use Rattle.cell_library.proofs.Common.{Transform, MOST_PLANES, RawTech, Layout, CellTree, IsTyped, layout_of, UseBody, displacements, held_at}
use Rattle.cell_library.proofs.Common.{no_held, IsSoundHeld, elements_at, elements_from, tree_to, LibraryParts, IsLawfulLibrary, cells_seen, seen}
use Rattle.cell_library.proofs.Common.{uses_in, CellView, LibraryView, no_cell, view_at}
use Rattle.cell_bodies.specs.LayoutModel.LayerTypes.{HasTypesOf}
use Rattle.cell_bodies.specs.LayoutModel.CellTrees.{Elements}
use Rattle.cell_bodies.specs.LayoutModel.FlatSets.{AreTyped}
use Rattle.cell_bodies.proofs.CellPaint.PaintTypes.{paint_has_types}
use Rattle.cell_library.specs.LayoutTrees.{tree_at}
use Rattle.cell_library.proofs.ViewLaws.{cell_viewed, length-cell_views}

-- ---- paint

-- ---- trees

elements_typed : (raw : RawTech) (tree : CellTree) (placed : Transform) (steps : List (ℤ × ℤ)) (rest : Elements) → IsTyped raw tree
    → AreTyped raw rest
    → AreTyped raw (elements_at tree placed steps rest)
elements_typed raw tree placed [] rest typed later = later
elements_typed raw tree placed (step ∷ steps) rest typed later = (typed, elements_typed raw tree placed steps rest typed later)

uses_typed : (raw : RawTech) (trees : ℕ → CellTree) (uses : List (List ℕ × UseBody)) → ((cell : ℕ) → IsTyped raw (trees cell))
    → AreTyped raw (elements_from trees uses)
uses_typed raw trees [] typed = tt
uses_typed raw trees (entry ∷ rest) typed =
    elements_typed raw (trees entry.1.child.0) entry.1.placed (displacements entry.1.grid) (elements_from trees rest) (typed entry.1.child.0)
    (uses_typed raw trees rest typed)

-- where each cell has types of the technology, so has each tree
pub tree_is_typed : (raw : RawTech) (view : LibraryView) → ((cell : ℕ) → HasTypesOf raw (view_at view cell).own) → (depth cell : ℕ)
    → IsTyped raw (tree_to view depth cell)
tree_is_typed raw view typed zero cell = (typed cell, tt)
tree_is_typed raw view typed (suc depth) cell =
    (typed cell, uses_typed raw (tree_to view depth) (view_at view cell).uses (tree_is_typed raw view typed depth))

-- ---- libraries

module _ (library : LibraryParts) (lawful : IsLawfulLibrary library) (sound : All IsSoundHeld library.contents) where
  cell_typed : (cell : ℕ) → HasTypesOf library.tech (view_at (seen library) cell).own
  cell_typed cell = elim (cases_lt cell (length library.contents)) [
    | inl below ↦
        let held = held_at library.contents cell in
        let is = lawful.each cell no_held below in
        let limit = lawful.well_formed.planes_limit in
        let planes : length held.paint.planes ≡ length library.tech.planes = is.planes in
        let few : length held.paint.planes ≤ MOST_PLANES = omega arith in
        let own : layout_of held.paint ≡ (view_at (seen library) cell).own =
        ap (λ (view : CellView). view.own) (sym (cell_viewed library.contents (uses_in library.tree.cells) cell below)) in
        subst (HasTypesOf library.tech) own (paint_has_types library.tech held.paint (sym is.kinds) few (sound cell no_held below))
    | inr past ↦
        let long = length-cell_views library.contents (uses_in library.tree.cells) in
        let over : length (cells_seen library.contents library.tree) ≤ cell = omega arith in
        let own : (view_at (seen library) cell).own ≡ no_cell.own =
        ap (λ (view : CellView). view.own) (get_or_past (cells_seen library.contents library.tree) cell no_cell over) in
        λ place some. absurd (some (ap (λ (layout : Layout). layout place) own))
  ]

  -- each tree has types of the technology
  pub library_is_typed : (cell : ℕ) → IsTyped library.tech (tree_at (seen library) cell)
  unfolding tree_at
  library_is_typed cell = tree_is_typed library.tech (seen library) cell_typed 64 cell
