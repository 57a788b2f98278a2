-- Changes of one cell, and what takes each of them back.
use Rattle.undo_log.proofs.Common.{◌≡◌, ◌<◌, ℕ, ℤ, true, false, List, [], ◌∷◌, ◌++◌, length, filter, insert, take, refl, sym, ap, subst, ◌∙◌, ◌-◌}
use Rattle.undo_log.proofs.Common.{neg_ℤ, Option, not, if◌then◌else◌, bytes_eq, Grid, Rect, is_covered, Layout, Place, Label, UseBody, moved_use}
use Rattle.undo_log.proofs.Common.{with_use_changed, has_id, IsLawfulView, CellView, LibraryView, view_at, with_cell_changed, Change, Repaint}
use Rattle.undo_log.proofs.Common.{InsertUse, DeleteUse, MoveUse, SetGrid, AddLabel, DropLabel, SetLabels, SpeaksOf, TakesBack, changed, AddsLast}
use Rattle.undo_log.proofs.Common.{BringsAgain, GivesGrid, PutsBack}
use Rattle.std.specs.Prelude.{Bool}
use Rattle.geo_core.specs.declared.squares.Piece.{Piece}
use Rattle.cell_paint.specs.Paints.{IsSoundPaint}
use Rattle.cell_paint.specs.Pieces.{kind_by, with_pieces}
use Rattle.cell_paint.proofs.PieceLaws.{taken_brings_back}
use Rattle.edit_script.specs.CellLibrary.Contents.{without_last}
use Rattle.edit_script.proofs.CellLibrary.UndoneEdits.{cell_back}
use Rattle.undo_log.proofs.BodyLaws.{Uses, added_goes, added_some, changed_has, deleted_comes, deleted_place, inserted_goes, inserted_has, moved_back}
use Rattle.undo_log.proofs.BodyLaws.{regridded_back}
use Rattle.undo_log.proofs.CellLaws.{cell_here, count_kept}
use Rattle.undo_log.proofs.LawfulLaws.{lawful_ids}

-- what a change makes of a cell
abbrev pub remade : Change → CellView → CellView
remade (Repaint area pieces) body = record body { own = with_pieces area pieces body.own }
remade (InsertUse at id used) body = record body { uses = insert body.uses at (id, used) }
remade (DeleteUse id) body = record body { uses = filter (λ entry. not (bytes_eq entry.0 id)) body.uses }
remade (MoveUse id dx dy) body = record body { uses = with_use_changed (moved_use dx dy) id body.uses }
remade (SetGrid id grid) body = record body { uses = with_use_changed (λ used. record used { grid = grid }) id body.uses }
remade (AddLabel label) body = record body { labels = body.labels ++ label ∷ [] }
remade DropLabel body = record body { labels = without_last body.labels }
remade (SetLabels labels) body = record body { labels = labels }

-- it changes this one cell of a library
pub changed_is : (view : LibraryView) (cell : ℕ) (change : Change) → changed view cell change ≡ with_cell_changed view cell (remade change)
changed_is view cell (Repaint area pieces) = refl
changed_is view cell (InsertUse at id used) = refl
changed_is view cell (DeleteUse id) = refl
changed_is view cell (MoveUse id dx dy) = refl
changed_is view cell (SetGrid id grid) = refl
changed_is view cell (AddLabel label) = refl
changed_is view cell DropLabel = refl
changed_is view cell (SetLabels labels) = refl

-- A change takes back what was made of the cell, where it gives the cell what it had.
pub taken_back : (view : LibraryView) (cell : ℕ) (first : CellView → CellView) (back : Change) → cell < length view.cells
    → SpeaksOf view.tech (first (view_at view cell)) back → remade back (first (view_at view cell)) ≡ view_at view cell
    → TakesBack view (with_cell_changed view cell first) cell back
taken_back view cell first back there speaks same = record {
  there = subst (λ (n : ℕ). cell < n) (sym (count_kept view cell first)) there;
  speaks = subst (λ (held : CellView). SpeaksOf view.tech held back) (sym (cell_here view cell first there)) speaks;
  is = changed_is (with_cell_changed view cell first) cell back ∙ cell_back view cell first (remade back) same;
}

module _ (view : LibraryView) (cell : ℕ) (there : cell < length view.cells) where
  -- the cell
  abbrev body : CellView
  body = view_at view cell

  -- ---- paint

  -- what stood in an area takes back what was made of the paint in the area
  pub paint_taken_back : (area : Rect) (back : Change) (change : Layout → Layout)
      → ((layout : Layout) (place : Place) → is_covered area place.square ≡ false → change layout place ≡ layout place)
      → PutsBack view.tech body area back
      → TakesBack view (with_cell_changed view cell (λ held. record held { own = change held.own })) cell back
  paint_taken_back area back change outside puts =
      subst (TakesBack view (with_cell_changed view cell (λ held. record held { own = change held.own })) cell) (sym puts.is)
      (taken_back view cell (λ held. record held { own = change held.own }) (Repaint area puts.pieces) there
      (puts.proper, puts.near, puts.stand, subst (IsSoundPaint view.tech.types) (sym brought) puts.sound)
      (ap (λ (own : Layout). record body { own = own }) brought))
    where
      brought : with_pieces area puts.pieces (change body.own) ≡ body.own
      brought = λ i place. taken_brings_back body.own area puts.pieces puts.taken (change body.own) (outside body.own) place i

  -- pieces that are put into an area are taken back
  pub repaint_taken_back : (area : Rect) (pieces : List (ℕ × Piece)) (back : Change) → PutsBack view.tech body area back
      → TakesBack view (with_cell_changed view cell (remade (Repaint area pieces))) cell back
  repaint_taken_back area pieces back puts =
      paint_taken_back area back (with_pieces area pieces)
      (λ layout place outside. ap (λ (b : Bool). if b then kind_by pieces place else layout place) outside) puts

  -- ---- uses

  -- a use that comes is taken back when it goes
  pub insertion_taken_back : (at : ℕ) (id : List ℕ) (used : UseBody) → has_id body.uses id ≡ false
      → TakesBack view (with_cell_changed view cell (λ held. record held { uses = insert held.uses at (id, used) })) cell (DeleteUse id)
  insertion_taken_back at id used new =
      taken_back view cell (λ held. record held { uses = insert held.uses at (id, used) }) (DeleteUse id) there (inserted_has body.uses at id used)
      (ap (λ (uses : Uses). record body { uses = uses }) (inserted_goes body.uses at id used new))

  -- a use that goes is taken back when it comes again
  pub deletion_taken_back : (id : List ℕ) (back : Change) → IsLawfulView view → BringsAgain body id back
      → TakesBack view (with_cell_changed view cell (remade (DeleteUse id))) cell back
  deletion_taken_back id back lawful brings =
      let differ = lawful_ids view cell lawful there in
      subst (TakesBack view (with_cell_changed view cell (remade (DeleteUse id))) cell) (sym brings.is)
      (taken_back view cell (remade (DeleteUse id)) (InsertUse brings.place id brings.used) there
      (deleted_place body.uses brings.place id brings.used differ brings.stands)
      (ap (λ (uses : Uses). record body { uses = uses }) (deleted_comes body.uses brings.place id brings.used differ brings.stands)))

  -- a use that moves is taken back when it moves back
  pub move_taken_back : (id : List ℕ) (dx dy : ℤ) → has_id body.uses id ≡ true
      → TakesBack view (with_cell_changed view cell (remade (MoveUse id dx dy))) cell (MoveUse id (neg_ℤ dx) (neg_ℤ dy))
  move_taken_back id dx dy has =
      taken_back view cell (remade (MoveUse id dx dy)) (MoveUse id (neg_ℤ dx) (neg_ℤ dy)) there (changed_has (moved_use dx dy) id body.uses ∙ has)
      (ap (λ (uses : Uses). record body { uses = uses }) (moved_back dx dy id body.uses))

  -- another grid is taken back by the one before
  pub grid_taken_back : (id : List ℕ) (back : Change) (change : UseBody → UseBody)
      → ((other : UseBody) (grid : Option Grid) → record (change other) { grid = grid } ≡ record other { grid = grid })
      → has_id body.uses id ≡ true → IsLawfulView view → GivesGrid body id back
      → TakesBack view (with_cell_changed view cell (λ held. record held { uses = with_use_changed change id held.uses })) cell back
  grid_taken_back id back change alone has lawful gives =
      subst (TakesBack view (with_cell_changed view cell (λ held. record held { uses = with_use_changed change id held.uses })) cell) (sym gives.is)
      (taken_back view cell (λ held. record held { uses = with_use_changed change id held.uses }) (SetGrid id gives.used.grid) there
      (changed_has change id body.uses ∙ has)
      (ap (λ (uses : Uses). record body { uses = uses })
      (regridded_back change id body.uses gives.place gives.used alone (lawful_ids view cell lawful there) gives.stands)))

  -- ---- labels

  -- a label that comes last is taken back when the last goes
  pub label_taken_back : (label : Label)
      → TakesBack view (with_cell_changed view cell (λ held. record held { labels = held.labels ++ label ∷ [] })) cell DropLabel
  label_taken_back label =
      taken_back view cell (λ held. record held { labels = held.labels ++ label ∷ [] }) DropLabel there (added_some body.labels label)
      (ap (λ (labels : List Label). record body { labels = labels }) (added_goes body.labels label))

  -- the last that goes is taken back when it comes
  pub drop_taken_back : (back : Change) → AddsLast body.labels back
      → TakesBack view (with_cell_changed view cell (remade DropLabel)) cell back
  drop_taken_back back adds =
      let gone : take (length body.labels - 1) body.labels ≡ adds.rest =
      ap (λ (labels : List Label). take (length labels - 1) labels) adds.labels_are ∙ added_goes adds.rest adds.label in
      subst (TakesBack view (with_cell_changed view cell (remade DropLabel)) cell) (sym adds.is)
      (taken_back view cell (remade DropLabel) (AddLabel adds.label) there tt
      (ap (λ (labels : List Label). record body { labels = labels })
      (ap (λ (labels : List Label). labels ++ adds.label ∷ []) gone ∙ sym adds.labels_are)))

  -- other labels are taken back by those that there were
  pub labels_taken_back : (change : List Label → List Label)
      → TakesBack view (with_cell_changed view cell (λ held. record held { labels = change held.labels })) cell (SetLabels body.labels)
  labels_taken_back change =
      taken_back view cell (λ held. record held { labels = change held.labels }) (SetLabels body.labels) there tt refl
