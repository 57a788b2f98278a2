-- Named trees that an edit keeps.
use Rattle.library_trees.proofs.Common.{◌≡◌, ◌<◌, ℕ, zero, suc, List, [], ◌∷◌, ◌++◌, length, refl, sym, ap, subst, arith, Option, Some, None}
use Rattle.library_trees.proofs.Common.{Transform, HasChild, LibraryParts, IsLawfulLibrary, cells_seen, seen, uses_in, CellView, LibraryView}
use Rattle.library_trees.proofs.Common.{no_cell, view_at, with_cell_changed, children_are_cells, length-cell_views, IsAtOrBelow}
use Rattle.std.specs.Prelude.{slice_index_or}
use Rattle.std.specs.Option.{option_map_or}
use Rattle.std.proofs.lemmas.List.{get_or_append_left}
use Rattle.finite_sets.proofs.Chains.{Chain-carries}
use Rattle.cell_library.specs.Edits.{empty_cell, single_use, transform_of, with_new_cell}
use Rattle.cell_library.specs.Views.{changed_at}
use Rattle.library_trees.specs.Laws.{EditsKeepOtherTrees, HaveOneTree, NewCellsKeepTrees}
use Rattle.library_trees.proofs.AgreeingViews.{agreeing_views}

-- ---- a change of one cell

-- a change at one place keeps the other places
changed_elsewhere : (cells : List CellView) (k place : ℕ) (change : CellView → CellView) → (place ≡ k → ⊥)
    → slice_index_or cells place no_cell ≡ slice_index_or (changed_at cells k change) place no_cell
changed_elsewhere [] k place change apart = refl
changed_elsewhere (cell ∷ cells) zero zero change apart = absurd (apart refl)
changed_elsewhere (cell ∷ cells) zero (suc place) change apart = refl
changed_elsewhere (cell ∷ cells) (suc k) zero change apart = refl
changed_elsewhere (cell ∷ cells) (suc k) (suc place) change apart = changed_elsewhere cells k place change (λ same. apart (ap suc same))

-- a change of a cell keeps what is seen of each cell at and below another that it does not stand below
pub change_keeps_views : (view : LibraryView) (cell other : ℕ) → (IsAtOrBelow view other cell → ⊥) → (change : CellView → CellView) → (below : ℕ)
    → IsAtOrBelow view other below → view_at view below ≡ view_at (with_cell_changed view cell change) below
change_keeps_views view cell other apart change below chain =
    changed_elsewhere view.cells cell below change (λ same. apart (subst (IsAtOrBelow view other) same chain))

-- so it keeps the tree of the other
pub change_keeps : (view : LibraryView) (cell other : ℕ) → (IsAtOrBelow view other cell → ⊥) → (change : CellView → CellView)
    → HaveOneTree (with_cell_changed view cell change) view other
change_keeps view cell other apart change =
    sym (agreeing_views view (with_cell_changed view cell change) other (change_keeps_views view cell other apart change))

-- a change that may be none
change_may_keep : (view : LibraryView) (other : ℕ) (change : Transform → LibraryView)
    → ((transform : Transform) → HaveOneTree (change transform) view other) → (given : Option Transform)
    → HaveOneTree (option_map_or change given view) view other
change_may_keep view other change keeps None = refl
change_may_keep view other change keeps (Some transform) = keeps transform

-- each edit of a cell keeps the tree of another that it does not stand below
pub edits_keep : EditsKeepOtherTrees
edits_keep view cell other apart = record {
  paint = λ layer area. change_keeps view cell other apart _;
  erase = λ layer area. change_keeps view cell other apart _;
  label = λ added. change_keeps view cell other apart _;
  unlabel = λ text. change_keeps view cell other apart _;
  place = λ child id six. change_may_keep view other
      (λ transform. with_cell_changed view cell (λ body. record body { uses = body.uses ++ (id, single_use child transform) ∷ [] }))
      (λ transform. change_keeps view cell other apart _) (transform_of six);
  array = λ id grid. change_keeps view cell other apart _;
  move = λ id dx dy. change_keeps view cell other apart _;
  delete = λ id. change_keeps view cell other apart _;
}

-- ---- a new cell

-- what stands at or below a cell of a lawful library is a cell of it
pub below_is_cell : (library : LibraryParts) → IsLawfulLibrary library → (cell below : ℕ) → cell < length library.contents
    → IsAtOrBelow (seen library) cell below → below < length library.contents
below_is_cell library lawful cell below there chain =
    Chain-carries (λ c. c < length library.contents) (λ upper lower (child : HasChild (view_at (seen library) upper).uses lower) known.
    subst (λ c. c < length library.contents) child.same
    (children_are_cells library lawful upper known child.k child.entry child.stands)) chain there

-- a new cell keeps the trees of the cells of the library
pub new_cells_keep : (library : LibraryParts) → IsLawfulLibrary library → NewCellsKeepTrees library
new_cells_keep library lawful name cell there =
    let cells : List CellView = cells_seen library.contents library.tree in
    let many : length cells ≡ length library.contents = length-cell_views library.contents (uses_in library.tree.cells) in
    sym (agreeing_views (seen library) (with_new_cell (seen library) name) cell (λ below chain.
    let known = below_is_cell library lawful cell below there chain in
    sym (get_or_append_left cells (empty_cell name ∷ []) no_cell below (omega (arith, known, many)))))
