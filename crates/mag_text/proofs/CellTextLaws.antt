-- The text of a cell of a library: its uses as they are written, its scale and its labels.
use Rattle.mag_text.proofs.Common.{◌≡◌, ◌<◌, ℕ, zero, suc, List, [], ◌∷◌, ◌++◌, length, take, sym, ap, subst, ◌∙◌, arith, slice_get, slice_index_or}
use Rattle.mag_text.proofs.Common.{All, IsLabel, UseBody, cell_is, LibraryParts, IsLawfulLibrary, IsLawfulScale, seen, uses_in, CellView}
use Rattle.mag_text.proofs.Common.{LibraryView, view_at, held_lawful, cell_viewed, WrittenUse, IsWrittenUse, AreWrittenUses, IsLayered}
use Rattle.std.specs.Prelude.{◌+◌, Option, Some, None}
use Rattle.std.proofs.lemmas.List.{take_more}
use Rattle.std.proofs.lemmas.Option.{slice_get-get_or}
use Rattle.cell_tree.specs.Trees.{cell_at}
use Rattle.cell_tree.specs.Uses.{IsLawfulUse}
use Rattle.cell_library.proofs.UseEdits.{uses_here}

-- the labels of a cell are lawful
pub labels_lawful : (library : LibraryParts) (cell : ℕ) → IsLawfulLibrary library → cell < length library.contents
    → All (IsLabel library.tech) (view_at (seen library) cell).labels
labels_lawful library cell lawful below =
    subst (λ (view : CellView). All (IsLabel library.tech) view.labels) (sym (cell_viewed library.contents (uses_in library.tree.cells) cell below))
    (held_lawful library lawful cell below).labels

-- and so their layers are the technology's
pub labels_layered : (library : LibraryParts) (cell : ℕ) → IsLawfulLibrary library → cell < length library.contents
    → All (IsLayered library.tech) (view_at (seen library) cell).labels
labels_layered library cell lawful below = λ k d inside. (labels_lawful library cell lawful below k d inside).layer

-- a use of a cell is lawful, and its child is a cell
pub use_lawful : (library : LibraryParts) (cell k : ℕ) (entry : List ℕ × UseBody) → IsLawfulLibrary library → cell < length library.contents
    → slice_get (view_at (seen library) cell).uses k ≡ Some entry → IsLawfulUse entry.1 × (entry.1.child.0 < length library.contents)
use_lawful library cell k entry lawful below there =
    let many = lawful.so_many in
    let inside : cell < length library.tree.cells = omega arith in
    let at : slice_get (cell_at library.tree.cells cell).uses k ≡ Some entry =
    ap (λ (uses : List (List ℕ × UseBody)). slice_get uses k) (sym (uses_here library lawful cell below)) ∙ there in
    let is = lawful.tree.cells.uses cell (cell_at library.tree.cells cell) (cell_is library.tree.cells cell inside) k entry at in
    (is.0, subst (λ (n : ℕ). entry.1.child.0 < n) many is.1)

-- one more use
pub uses_more : (view : LibraryView) (entries : List (List ℕ × UseBody)) (written : List WrittenUse) (entry : List ℕ × UseBody) (more : WrittenUse)
    → AreWrittenUses view entries written → IsWrittenUse view entry more → AreWrittenUses view (entries ++ entry ∷ []) (written ++ more ∷ [])
uses_more view [] [] entry more are is = (is, tt)
uses_more view [] (one ∷ written) entry more are is = absurd are
uses_more view (first ∷ entries) [] entry more are is = absurd are
uses_more view (first ∷ entries) (one ∷ written) entry more are is = (are.0, uses_more view entries written entry more are.1 is)

-- the uses before the next one are written once that one is
pub uses_written : (view : LibraryView) (entries : List (List ℕ × UseBody)) (old new : List WrittenUse) (k : ℕ) (more : WrittenUse)
    → k < length entries
    → AreWrittenUses view (take k entries) old → new ≡ old ++ more ∷ []
    → ((entry : List ℕ × UseBody) → slice_get entries k ≡ Some entry → IsWrittenUse view entry more)
    → AreWrittenUses view (take (k + 1) entries) new
uses_written view [] old new k more below are is each = absurd (omega arith)
uses_written view (first ∷ rest) old new k more below are is each =
    let entries : List (List ℕ × UseBody) = first ∷ rest in
    let entry = slice_index_or entries k first in
    subst (λ (list : List (List ℕ × UseBody)). AreWrittenUses view list new) (sym (take_more entries k first below))
    (subst (AreWrittenUses view (take k entries ++ entry ∷ [])) (sym is)
    (uses_more view (take k entries) old entry more are (each entry (slice_get-get_or entries k first below))))

-- where there is a use it is found
pub use_there : {X : Type 0} (xs : List X) (k : ℕ) → k < length xs → slice_get xs k ≡ None → ⊥
use_there [] k below none = omega arith
use_there (x ∷ xs) zero below none = cc
use_there (x ∷ xs) (suc k) below none = use_there xs k (omega arith) none
