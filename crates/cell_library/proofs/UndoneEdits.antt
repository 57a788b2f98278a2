-- What gives a cell back its paint or its labels undoes the edits of these.
use Rattle.cell_library.proofs.Common.{◌≡◌, ◌<◌, ◌∷◌, [], ℕ, zero, suc, List, length, refl, sym, ap, subst, arith, slice_index_or, Piece, Rect}
use Rattle.cell_library.proofs.Common.{is_covered, TypeRec, painted_column, erased_column, Layout, Place, with_paint, with_erased, IsSoundPaint}
use Rattle.cell_library.proofs.Common.{with_pieces, AreTakenOut, painted, erased, repainted, CellView, LibraryView, changed_at, no_cell, view_at}
use Rattle.cell_library.proofs.Common.{with_cell_changed}
use Rattle.std.specs.Prelude.{false}
use Rattle.cell_bodies.proofs.CellPaint.PaintLaws.{changed_outside}
use Rattle.cell_bodies.proofs.CellPaint.PieceLaws.{taken_brings_back}

-- ---- one cell

-- a change and one that undoes it leave a list as it was
changed_back : {X : Type 0} (xs : List X) (k : ℕ) (first second : X → X) (d : X) → second (first (slice_index_or xs k d)) ≡ slice_index_or xs k d
    → changed_at (changed_at xs k first) k second ≡ xs
changed_back [] k first second d back = refl
changed_back (x ∷ xs) zero first second d back = ap (λ y. y ∷ xs) back
changed_back (x ∷ xs) (suc k) first second d back = ap (λ ys. x ∷ ys) (changed_back xs k first second d back)

-- and a library
pub cell_back : (view : LibraryView) (cell : ℕ) (first second : CellView → CellView) → second (first (view_at view cell)) ≡ view_at view cell
    → with_cell_changed (with_cell_changed view cell first) cell second ≡ view
cell_back view cell first second back = λ i. record view { cells = changed_back view.cells cell first second no_cell back i }

-- the cell that was changed is the changed one
pub changed_there : {X : Type 0} (xs : List X) (k : ℕ) (change : X → X) (d : X) → k < length xs
    → slice_index_or (changed_at xs k change) k d ≡ change (slice_index_or xs k d)
changed_there [] k change d below = absurd (omega arith)
changed_there (x ∷ xs) zero change d below = refl
changed_there (x ∷ xs) (suc k) change d below = changed_there xs k change d (omega arith)

-- ---- paint

-- the layout differs in the area alone
abbrev pub DiffersIn : Rect → Layout → Layout → Type 0
DiffersIn area before after = (place : Place) → is_covered area place.square ≡ false → after place ≡ before place

module _ (view : LibraryView) (cell : ℕ) (area : Rect) (taken : List (ℕ × Piece)) (are : AreTakenOut (view_at view cell).own area taken)
    (change : Layout → Layout) (differs : DiffersIn area (view_at view cell).own (change (view_at view cell).own)) where
  -- the layout comes back
  layout_back : with_pieces area taken (change (view_at view cell).own) ≡ (view_at view cell).own
  layout_back = λ i place. taken_brings_back (view_at view cell).own area taken are (change (view_at view cell).own) differs place i

  -- what was taken out of the area before a change of the paint in it undoes the change
  pub paint_back : repainted (with_cell_changed view cell (λ body. record body { own = change body.own })) cell area taken ≡ view
  paint_back =
      cell_back view cell (λ body. record body { own = change body.own }) (λ body. record body { own = with_pieces area taken body.own })
      (ap (λ (own : Layout). record (view_at view cell) { own = own }) layout_back)

  -- and what comes to stand is as sound as what stood there
  pub sound_back : (kinds : List TypeRec) → cell < length view.cells → IsSoundPaint kinds (view_at view cell).own
      → IsSoundPaint kinds (with_pieces area taken (view_at (with_cell_changed view cell (λ body. record body { own = change body.own })) cell).own)
  sound_back kinds below sound =
      let there = ap (λ (body : CellView). body.own) (changed_there view.cells cell (λ body. record body { own = change body.own }) no_cell below) in
      subst (λ (own : Layout). IsSoundPaint kinds (with_pieces area taken own)) (sym there) (subst (IsSoundPaint kinds) (sym layout_back) sound)

module _ (view : LibraryView) (cell layer : ℕ) (area : Rect) (taken : List (ℕ × Piece)) (are : AreTakenOut (view_at view cell).own area taken) where
  -- paint changes its area alone
  pub paint_differs : DiffersIn area (view_at view cell).own (with_paint view.tech layer area (view_at view cell).own)
  paint_differs place outside = changed_outside (painted_column view.tech layer) (is_covered area) (view_at view cell).own place outside

  -- and so does erasing
  pub erasing_differs : DiffersIn area (view_at view cell).own (with_erased view.tech layer area (view_at view cell).own)
  erasing_differs place outside = changed_outside (erased_column view.tech layer) (is_covered area) (view_at view cell).own place outside

  -- what was taken out before undoes paint
  pub painted_back : repainted (painted view cell layer area) cell area taken ≡ view
  painted_back = paint_back view cell area taken are (with_paint view.tech layer area) paint_differs

  -- and erasing
  pub erased_back : repainted (erased view cell layer area) cell area taken ≡ view
  erased_back = paint_back view cell area taken are (with_erased view.tech layer area) erasing_differs
