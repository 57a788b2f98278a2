-- Each edit of a library is refused for one fault.
use Rattle.uniqueness.proofs.Common.{◌≡◌, inl, inr, ℕ, ℤ, List, map, ap, sym, ◌∙◌, cases_order, Grid, Rect, Label, CellBody, AddAllIsRefused}
use Rattle.uniqueness.proofs.Common.{with_all, LibraryView, view_at, IsForOneFault}
use Rattle.cell_loading.specs.CellTree.Additions.{IsFirstBelowItself}
use Rattle.cell_loading.specs.CellTree.Sizes.{CellState}
use Rattle.edit_script.specs.CellLibrary.declared.faults.LibFault.TheVariants.{Cycle}
use Rattle.edit_script.specs.CellLibrary.Refusals.{ArrayIsRefused, DeleteIsRefused, EraseIsRefused, LabelIsRefused, MoveIsRefused, NewCellIsRefused}
use Rattle.edit_script.specs.CellLibrary.Refusals.{PaintIsRefused, PlaceIsRefused, UnlabelIsRefused, uses_of}
use Rattle.uniqueness.specs.Refusals.{LibraryFaultsAreUnique}
use Rattle.uniqueness.proofs.OneFault.{first_of, nothing_else}

pub one_new : (view : LibraryView) (name : List ℕ) → IsForOneFault (NewCellIsRefused view name)
one_new view name = first_of _ _ _ (first_of _ _ _ nothing_else)

pub one_paint : (view : LibraryView) (cell layer : ℕ) (area : Rect) → IsForOneFault (PaintIsRefused view cell layer area)
one_paint view cell layer area = first_of _ _ _ (first_of _ _ _ (first_of _ _ _ nothing_else))

pub one_erase : (view : LibraryView) (cell layer : ℕ) (area : Rect) → IsForOneFault (EraseIsRefused view cell layer area)
one_erase view cell layer area = first_of _ _ _ (first_of _ _ _ (first_of _ _ _ nothing_else))

pub one_label : (view : LibraryView) (cell : ℕ) (label : Label) → IsForOneFault (LabelIsRefused view cell label)
one_label view cell label = first_of _ _ _ (first_of _ _ _ (first_of _ _ _ nothing_else))

pub one_unlabel : (view : LibraryView) (cell : ℕ) (text : List ℕ) → IsForOneFault (UnlabelIsRefused view cell text)
one_unlabel view cell text = first_of _ _ _ nothing_else

pub one_place : (view : LibraryView) (cell child : ℕ) (id : List ℕ) (six : List ℤ) → IsForOneFault (PlaceIsRefused view cell child id six)
one_place view cell child id six =
    first_of _ _ _ (first_of _ _ _ (first_of _ _ _
    (first_of _ _ _ (first_of _ _ _ (first_of _ _ _ (first_of _ _ _ (first_of _ _ _ nothing_else)))))))

pub one_array : (view : LibraryView) (cell : ℕ) (id : List ℕ) (grid : Grid) → IsForOneFault (ArrayIsRefused view cell id grid)
one_array view cell id grid = first_of _ _ _ (first_of _ _ _ (first_of _ _ _ (first_of _ _ _ (first_of _ _ _ nothing_else))))

pub one_move : (view : LibraryView) (cell : ℕ) (id : List ℕ) (dx dy : ℤ) → IsForOneFault (MoveIsRefused view cell id dx dy)
one_move view cell id dx dy = first_of _ _ _ (first_of _ _ _ (first_of _ _ _ nothing_else))

pub one_delete : (view : LibraryView) (cell : ℕ) (id : List ℕ) → IsForOneFault (DeleteIsRefused view cell id)
one_delete view cell id = first_of _ _ _ nothing_else

-- the first cell that would stand below itself is one
one_first : (cells : List CellState) (a b : ℕ) → IsFirstBelowItself cells a → IsFirstBelowItself cells b → a ≡ b
one_first cells a b p q = elim (cases_order a b) [
  | inl same ↦ same
  | inr (inl before) ↦ absurd (q.first a before p.below)
  | inr (inr behind) ↦ absurd (p.first b behind q.below)
]

pub one_add_all : (view : LibraryView) (cells : List (List ℕ × CellBody)) → IsForOneFault (AddAllIsRefused view cells)
one_add_all view cells told other (inl p) (inl q) =
    let after = with_all view cells in
    let cell = one_first (map uses_of after.cells) p.0 q.0 p.1 q.1 in
    p.2 ∙ ap (λ (key : ℕ). Cycle (view_at after key).name) cell ∙ sym q.2
one_add_all view cells told other (inl p) (inr q) = absurd (q.0 p.0 p.1.below)
one_add_all view cells told other (inr p) (inl q) = absurd (p.0 q.0 q.1.below)
one_add_all view cells told other (inr p) (inr q) =
    first_of _ _ _ (first_of _ _ _ (first_of _ _ _ nothing_else)) told other p.1 q.1

pub library_faults : LibraryFaultsAreUnique
library_faults = record {
  new_cell = one_new;
  paint = one_paint;
  erase = one_erase;
  label = one_label;
  unlabel = one_unlabel;
  place = one_place;
  array = one_array;
  move = one_move;
  delete = one_delete;
  add_all = one_add_all;
}
