-- One cell of a library is changed.
use Rattle.undo_log.proofs.Common.{◌≡◌, ◌<◌, ℕ, zero, suc, List, [], ◌∷◌, length, refl, ap, slice_index_or, CellView, LibraryView, changed_at}
use Rattle.undo_log.proofs.Common.{no_cell, view_at, with_cell_changed}
use Rattle.std.proofs.Common.{◌≢◌}
use Rattle.edit_script.proofs.CellLibrary.UndoneEdits.{changed_there}
use Rattle.edit_script.proofs.CellLibrary.ViewLaws.{length-changed_at}

-- ---- lists

-- changes that make the same of the thing there make the same of the list
pub changed_at-alike : {X : Type 0} (xs : List X) (k : ℕ) (d : X) (one other : X → X)
    → one (slice_index_or xs k d) ≡ other (slice_index_or xs k d) → changed_at xs k one ≡ changed_at xs k other
changed_at-alike [] k d one other same = refl
changed_at-alike (x ∷ xs) zero d one other same = ap (λ y. y ∷ xs) same
changed_at-alike (x ∷ xs) (suc k) d one other same = ap (λ ys. x ∷ ys) (changed_at-alike xs k d one other same)

-- another thing
pub changed_at-other : {X : Type 0} (xs : List X) (k j : ℕ) (d : X) (change : X → X) → j ≢ k
    → slice_index_or (changed_at xs k change) j d ≡ slice_index_or xs j d
changed_at-other [] k j d change other = refl
changed_at-other (x ∷ xs) zero zero d change other = absurd (other refl)
changed_at-other (x ∷ xs) zero (suc j) d change other = refl
changed_at-other (x ∷ xs) (suc k) zero d change other = refl
changed_at-other (x ∷ xs) (suc k) (suc j) d change other = changed_at-other xs k j d change (λ same. other (ap suc same))

-- ---- libraries

-- a library with these cells
abbrev with_cells : LibraryView → List CellView → LibraryView
with_cells view cells = record view { cells = cells }

-- changes that make the same of the cell make the same of the library
pub cell_alike : (view : LibraryView) (cell : ℕ) (one other : CellView → CellView) → one (view_at view cell) ≡ other (view_at view cell)
    → with_cell_changed view cell one ≡ with_cell_changed view cell other
cell_alike view cell one other same = ap (with_cells view) (changed_at-alike view.cells cell no_cell one other same)

-- the cell that was changed
pub cell_here : (view : LibraryView) (cell : ℕ) (change : CellView → CellView) → cell < length view.cells
    → view_at (with_cell_changed view cell change) cell ≡ change (view_at view cell)
cell_here view cell change there = changed_there view.cells cell change no_cell there

-- another cell
pub cell_other : (view : LibraryView) (cell k : ℕ) (change : CellView → CellView) → k ≢ cell
    → view_at (with_cell_changed view cell change) k ≡ view_at view k
cell_other view cell k change apart = changed_at-other view.cells cell k no_cell change apart

-- the cells are as many
pub count_kept : (view : LibraryView) (cell : ℕ) (change : CellView → CellView)
    → length (with_cell_changed view cell change).cells ≡ length view.cells
count_kept view cell change = length-changed_at view.cells cell change
