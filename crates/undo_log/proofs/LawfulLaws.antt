-- What holds of libraries that some lawful library is seen as.
use Rattle.undo_log.proofs.Common.{◌≡◌, ◌<◌, ℕ, List, length, map, sym, subst, All, Some, slice_get, Distinct, IsLabel, Dimension, UseBody}
use Rattle.undo_log.proofs.Common.{IsLawfulUse, LibraryParts, IsLawfulLibrary, seen, GoesPast, IsLawfulView, LibraryView, view_at, count_seen}
use Rattle.edit_script.specs.CellLibrary.Contents.{no_held}
use Rattle.edit_script.proofs.CellLibrary.ElementCounts.{use_is_lawful}
use Rattle.edit_script.proofs.CellLibrary.LimitLaws.{never_past}
use Rattle.edit_script.proofs.CellLibrary.OwnEdits.{labels_here}
use Rattle.edit_script.proofs.CellLibrary.UseEdits.{ids_differ, uses_here}

-- a fact of each cell of a lawful library is one of each cell that is seen
of_each : (P : LibraryView → ℕ → Type 0)
    → ((library : LibraryParts) → IsLawfulLibrary library → (cell : ℕ) → cell < length library.contents → P (seen library) cell)
    → (view : LibraryView) (cell : ℕ) → IsLawfulView view → cell < length view.cells → P view cell
of_each P holds view cell lawful there =
    let below : cell < length (seen lawful.0).cells = subst (λ (v : LibraryView). cell < length v.cells) (sym lawful.2) there in
    subst (λ (v : LibraryView). P v cell) lawful.2
    (holds lawful.0 lawful.1 cell (subst (λ (n : ℕ). cell < n) (count_seen lawful.0) below))

-- the ids of the uses of a cell differ
pub lawful_ids : (view : LibraryView) (cell : ℕ) → IsLawfulView view → cell < length view.cells
    → Distinct (map (λ (e : List ℕ × UseBody). e.0) (view_at view cell).uses)
lawful_ids =
    of_each (λ view cell. Distinct (map (λ (e : List ℕ × UseBody). e.0) (view_at view cell).uses)) (λ library lawful cell below.
    subst (λ (uses : List (List ℕ × UseBody)). Distinct (map (λ (e : List ℕ × UseBody). e.0) uses)) (sym (uses_here library lawful cell below))
    (ids_differ library lawful cell below))

-- the uses of a cell are lawful
pub lawful_uses : (view : LibraryView) (cell : ℕ) → IsLawfulView view → cell < length view.cells → (k : ℕ) (id : List ℕ) (used : UseBody)
    → slice_get (view_at view cell).uses k ≡ Some (id, used) → IsLawfulUse used
lawful_uses =
    of_each (λ view cell. (k : ℕ) (id : List ℕ) (used : UseBody) → slice_get (view_at view cell).uses k ≡ Some (id, used) → IsLawfulUse used)
    (λ library lawful cell below k id used is. (use_is_lawful library lawful cell below k id used is).0)

-- the labels of a cell are of their form
pub lawful_labels : (view : LibraryView) (cell : ℕ) → IsLawfulView view → cell < length view.cells
    → All (IsLabel view.tech) (view_at view cell).labels
lawful_labels =
    of_each (λ view cell. All (IsLabel view.tech) (view_at view cell).labels) (λ library lawful cell below.
    subst (All (IsLabel library.tech)) (sym (labels_here library lawful cell below)) (lawful.each cell no_held below).labels)

-- no limit is passed
pub lawful_within : (view : LibraryView) (dimension : Dimension) → IsLawfulView view → GoesPast dimension view → ⊥
lawful_within view dimension lawful goes =
    never_past (seen lawful.0) lawful.0.tree dimension lawful.1.tree lawful.1.boxes (subst (GoesPast dimension) (sym lawful.2) goes)
