-- Named trees and the stamps of their cells: an edit raises the stamp of each cell whose tree it changes.
use Rattle.library_trees.proofs.Common.{◌≡◌, ℕ, List, [], length, inl, inr, sym, ap, subst, ◌∙◌, arith, slice_get, cases_lt, stay, go, UseBody}
use Rattle.library_trees.proofs.Common.{cell_at, HasChild, LibraryParts, IsLawfulLibrary, seen, CellView, LibraryView, view_at, with_cell_changed}
use Rattle.library_trees.proofs.Common.{uses_seen, state_is, IsAtOrBelow}
use Rattle.finite_sets.proofs.Chains.{Chain-push}
use Rattle.cell_library.specs.CellTree.Cells.{IsAbove, Uses}
use Rattle.cell_library.specs.CellTree.Trees.{stamp_at}
use Rattle.cell_library.specs.Libraries.{IsNextEdit, edits_of}
use Rattle.library_trees.specs.Laws.{StampsTellChangedTrees}
use Rattle.library_trees.proofs.AgreeingViews.{agreeing_views}
use Rattle.library_trees.proofs.EditedTrees.{change_keeps_views}
use Rattle.library_trees.proofs.WholeTrees.{no_cell_seen}

-- where a child is seen, the cell uses it
child_is_used : (library : LibraryParts) → IsLawfulLibrary library → (upper lower : ℕ) → HasChild (view_at (seen library) upper).uses lower
    → Uses library.tree.cells upper lower
child_is_used library lawful upper lower has =
    elim (cases_lt upper (length library.contents)) [
      | inl below ↦ record {
        cell = cell_at library.tree.cells upper;
        is = state_is library lawful upper below;
        k = has.k;
        entry = has.entry;
        stands = sym (ap (λ (uses : List (List ℕ × UseBody)). slice_get uses has.k) (uses_seen library lawful upper below)) ∙ has.stands;
        child = has.same;
      }
      | inr past ↦
          let none : HasChild [] lower = subst (λ (c : CellView). HasChild c.uses lower) (no_cell_seen library upper past) has in
          absurd (no_child lower none)
    ] where
      no_child : (child : ℕ) → HasChild [] child → ⊥
      no_child child none = let is = none.stands in cc

-- a cell stands above those that stand below it
is_above : (library : LibraryParts) → IsLawfulLibrary library → {upper lower : ℕ} → IsAtOrBelow (seen library) upper lower
    → IsAbove library.tree.cells lower upper
is_above library lawful stay = stay
is_above library lawful (go has chain) = Chain-push (is_above library lawful chain) (child_is_used library lawful _ _ has)

-- an edit keeps what is seen of each cell at and below one whose stamp it keeps
pub stamps_keep_views : (library : LibraryParts) → IsLawfulLibrary library → (new : LibraryParts) (cell : ℕ) (change : CellView → CellView)
    → IsNextEdit library new cell → seen new ≡ with_cell_changed (seen library) cell change → (other : ℕ)
    → stamp_at new.tree.stamps other ≡ stamp_at library.tree.stamps other → (below : ℕ) → IsAtOrBelow (seen library) other below
    → view_at (seen library) below ≡ view_at (seen new) below
stamps_keep_views library lawful new cell change next is other kept below chain =
    change_keeps_views (seen library) cell other (λ edited.
    let raised : stamp_at new.tree.stamps other ≡ edits_of new = next.stamps.raised other (is_above library lawful edited) in
    omega (arith, raised, kept, lawful.tree.past other, next.edits)) change below chain
    ∙ ap (λ (view : LibraryView). view_at view below) (sym is)

-- and so the tree of each such cell
pub stamps_tell : (library : LibraryParts) → IsLawfulLibrary library → StampsTellChangedTrees library
stamps_tell library lawful new cell change next is other kept =
    sym (agreeing_views (seen library) (seen new) other (stamps_keep_views library lawful new cell change next is other kept))
