-- A cell of a library has one hull.
use Rattle.uniqueness.proofs.Common.{◌≡◌, ◌<◌, ℕ, zero, suc, List, [], ◌∷◌, length, map, sym, ap, ◌∙◌, subst, arith, Option, Some, slice_get}
use Rattle.uniqueness.proofs.Common.{slice_index_or, length-map, AreCells, Rect, UseBody, children_in, CellView, LibraryView, view_at}
use Rattle.cell_loading.specs.CellTree.declared.sizes.Size.{Size}
use Rattle.cell_loading.specs.CellTree.Sizes.{AreSizes, CellState}
use Rattle.edit_script.specs.CellLibrary.Limits.{AreStatesOf, HullIs}
use Rattle.edit_script.specs.CellLibrary.Views.{no_cell}
use Rattle.edit_script.proofs.CellLibrary.LimitLaws.{states_unique}
use Rattle.edit_script.proofs.CellLibrary.SizeLaws.{HaveChildren, one_size}
use Rattle.edit_script.proofs.CellLibrary.ViewLaws.{length-states}
use Rattle.edit_script.proofs.CellLibrary.ChildLaws.{child_used}

-- each state has the uses of the cell at its place
same_uses : (cells : List CellView) (states : List CellState) (key : ℕ) (state : CellState) → AreStatesOf cells states → slice_get states key ≡ Some state
    → (slice_index_or cells key no_cell).uses ≡ state.uses
same_uses [] [] key state are is = absurd (let no : ⊥ = cc in no)
same_uses [] (first ∷ states) key state are is = absurd are
same_uses (cell ∷ cells) [] key state are is = absurd are
same_uses (cell ∷ cells) (first ∷ states) zero state are is = (let same : first ≡ state = cc in sym are.1 ∙ ap (λ (one : CellState). one.uses) same)
same_uses (cell ∷ cells) (first ∷ states) (suc key) state are is = same_uses cells states key state are.2 is

module _ (view : LibraryView) (cells : AreCells (children_in view)) where
  -- the child of a use is a cell
  pub child_within : (cell k : ℕ) (entry : List ℕ × UseBody) → slice_get (view_at view cell).uses k ≡ Some entry
      → entry.1.child.0 < length view.cells
  child_within cell k entry is =
      let there = cells cell entry.1.child.0 (child_used view cell k entry is) in
      omega (arith, there, length-map view.cells (λ (body : CellView). map (λ (one : List ℕ × UseBody). one.1.child.0) body.uses))

  -- and so each child of states
  have_children : (states : List CellState) → AreStatesOf view.cells states → HaveChildren states
  have_children states are key state is k entry at =
      let uses = same_uses view.cells states key state are is in
      let within = child_within key k entry (ap (λ (uses : List (List ℕ × UseBody)). slice_get uses k) uses ∙ at) in
      omega (arith, within, length-states view.cells states are)

  -- so a cell has one hull
  pub one_hull : (cell : ℕ) (hull other : Option Rect) → cell < length view.cells → HullIs view cell hull → HullIs view cell other → hull ≡ other
  one_hull cell hull other there p q =
      let states = states_unique view.cells p.states q.states p.are_states q.are_states in
      let right = subst (λ (all : List CellState). AreSizes all q.sizes) (sym states) q.are_sizes in
      let size = one_size p.states p.sizes q.sizes (have_children p.states p.are_states) p.are_sizes right cell
      (omega (arith, there, length-states view.cells p.states p.are_states)) in
      p.is ∙ ap (λ (one : Size). one.hull) size ∙ sym q.is
