-- Commands that edit: what takes each of them back where it is accepted, and which are never accepted.
use Rattle.undo_log.proofs.Common.{◌≡◌, ◌<◌, ◌&&◌, ℕ, ℤ, true, false, List, [], ◌∷◌, ◌++◌, length, filter, insert, refl, sym, ap, subst, ◌∙◌, inl}
use Rattle.undo_log.proofs.Common.{inr, neg_ℤ, true≢false, MatchOption, Option, None, Some, not, option_map_or, bytes_eq, and_from, cases_Bool}
use Rattle.undo_log.proofs.Common.{cases_eq, Grid, Rect, has_square, is_covered, Label, Layout, Place, is_in_range, LibFault, Edits, MOST_EDITS}
use Rattle.undo_log.proofs.Common.{Hull, GoesPast, labelled, single_use, DeleteIsRefused, LabelIsRefused, MoveIsRefused, has_id, IsLawfulView}
use Rattle.undo_log.proofs.Common.{CellView, LibraryView, view_at, with_cell_changed, Editing, applied, grid_of, Change, DeleteUse, DropLabel}
use Rattle.undo_log.proofs.Common.{MoveUse, SetLabels, TakesBack, Accepts, BringsAgain, GivesGrid, PutsBack}
use Rattle.std.proofs.lemmas.List.Edits.{insert_end}
use Rattle.geo_core.specs.declared.transforms.Transform.{Transform}
use Rattle.tech_model.specs.declared.raw.LayerId.{LayerId}
use Rattle.tech_model.specs.Columns.{erased_column, painted_column}
use Rattle.tech_model.specs.Types.{layer_named}
use Rattle.cell_paint.specs.Painting.{with_erased, with_paint}
use Rattle.edit_script.specs.CellLibrary.declared.faults.LibFault.TheVariants as library
use Rattle.edit_script.specs.CellLibrary.Edits.{erased, painted, placed, transform_of, with_grid}
use Rattle.edit_script.specs.CellLibrary.Refusals.{ArrayIsRefused, EditIsRefused, EraseIsRefused, PaintIsRefused}
use Rattle.edit_script.specs.CellLibrary.Refusals.{AreaIsRefused, FirstOf, NothingElse, PlaceIsRefused}
use Rattle.edit_script.specs.CellLibrary.Views.{cell_named}
use Rattle.edit_script.specs.ScriptLines.declared.commands.Command.TheVariants as command
use Rattle.edit_script.specs.declared.faults.EditFault.{EditFault}
use Rattle.edit_script.specs.declared.faults.EditFault.TheVariants.{NoCell, NoLayer}
use Rattle.edit_script.specs.Edits.{label_layer, label_of}
use Rattle.edit_script.specs.Refusals.{LibraryRefuses, with_word}
use Rattle.undo_log.proofs.BodyLaws.{Uses}
use Rattle.edit_script.proofs.CellLibrary.OwnRestorations.{columns_outside}
use Rattle.edit_script.proofs.CellLibrary.ViewLaws.{changed_at-same}
use Rattle.undo_log.proofs.CellLaws.{cell_alike}
use Rattle.undo_log.proofs.ChangeLaws.{deletion_taken_back, grid_taken_back, insertion_taken_back, label_taken_back, labels_taken_back, move_taken_back}
use Rattle.undo_log.proofs.ChangeLaws.{paint_taken_back}

-- ---- what is refused

-- an edit that has a fault is refused
edit_refused : (edits : ℕ) (IsRefused : LibFault → Type 0) (fault : LibFault) → IsRefused fault
    → (told : LibFault) × EditIsRefused edits IsRefused told
edit_refused edits IsRefused fault refused = elim (cases_eq edits MOST_EDITS) [
  | inl full ↦ (library.TooMany Edits, inl (full, refl))
  | inr few ↦ (fault, inr (few, refused))
]

-- and so is its command
not_accepted : (editing : Editing) (word : List ℕ) (IsRefused : LibFault → Type 0) (fault : LibFault) → IsRefused fault
    → ((told : EditFault) → LibraryRefuses editing word IsRefused told → ⊥) → ⊥
not_accepted editing word IsRefused fault refused accepts =
    let found = edit_refused editing.edits IsRefused fault refused in
    accepts (with_word word found.0) (record { fault = found.0; is_refused = found.1; is = refl })

-- an area that paint may not go over is refused
area_refused : (area : Rect) (Later : LibFault → Type 0) → (has_square area && is_in_range area) ≡ false
    → (told : LibFault) × AreaIsRefused area Later told
area_refused area Later bad = elim (cases_Bool (has_square area)) [
  | inr none ↦ (library.EmptyRect, inl (none, refl))
  | inl some ↦ elim (cases_Bool (is_in_range area)) [
    | inl within ↦ absurd (true≢false (sym (and_from (has_square area) (is_in_range area) some within) ∙ bad))
    | inr past ↦ (library.OutOfRange, inr ((λ none. true≢false (sym some ∙ none)), inl (past, refl)))
  ]
]

-- a word names nothing, or what it names is refused
found_refused : {A : Type 0} (found : Option A) (Absent : EditFault → Type 0) (absent : EditFault) (IsRefused : A → EditFault → Type 0) → Absent absent
    → ((it : A) → ((told : EditFault) → IsRefused it told → ⊥) → ⊥) → ((told : EditFault) → MatchOption found (Absent told) (λ it. IsRefused it told) → ⊥)
    → ⊥
found_refused None Absent absent IsRefused is refuses accepts = accepts absent is
found_refused (Some it) Absent absent IsRefused is refuses accepts = refuses it accepts

-- what an accepted command names is there
found_there : {A : Type 0} (found : Option A) (Absent : EditFault → Type 0) (absent : EditFault) (IsRefused : A → EditFault → Type 0) → Absent absent
    → ((told : EditFault) → MatchOption found (Absent told) (λ it. IsRefused it told) → ⊥)
    → (it : A) × ((found ≡ Some it) × ((told : EditFault) → IsRefused it told → ⊥))
found_there None Absent absent IsRefused is accepts = absurd (accepts absent is)
found_there (Some it) Absent absent IsRefused is accepts = (it, (refl, accepts))

module _ (view : LibraryView) (edits : ℕ) (cell : ℕ) (there : cell < length view.cells) where
  -- the cell is the current one
  abbrev pub editing : Editing
  editing = record { library = view; edits = edits; current = Some cell }

  abbrev body : CellView
  body = view_at view cell

  -- ---- paint

  -- paint goes over no area but those that it may go over
  pub painting_refused : (layer : List ℕ) (area : Rect) → (has_square area && is_in_range area) ≡ false
      → Accepts editing (command.Paint layer area) → ⊥
  painting_refused layer area bad =
      found_refused {A = ℕ} (layer_named view.tech layer) (λ told. told ≡ NoLayer layer) (NoLayer layer)
      (λ number told. LibraryRefuses editing layer (PaintIsRefused view cell number area) told) refl (λ number accepts.
      let fault = area_refused area (FirstOf (GoesPast Hull (painted view cell number area)) library.OutOfRange NothingElse) bad in
      not_accepted editing layer (PaintIsRefused view cell number area) fault.0 fault.1 accepts)

  -- nor does what erases it
  pub erasing_refused : (layer : List ℕ) (area : Rect) → (has_square area && is_in_range area) ≡ false
      → Accepts editing (command.Erase layer area) → ⊥
  erasing_refused layer area bad =
      found_refused {A = ℕ} (layer_named view.tech layer) (λ told. told ≡ NoLayer layer) (NoLayer layer)
      (λ number told. LibraryRefuses editing layer (EraseIsRefused view cell number area) told) refl (λ number accepts.
      let fault = area_refused area (FirstOf (GoesPast Hull (erased view cell number area)) library.OutOfRange NothingElse) bad in
      not_accepted editing layer (EraseIsRefused view cell number area) fault.0 fault.1 accepts)

  -- what is made with a layer, where it is found
  with_found : (found : Option ℕ) (change : ℕ → Layout → Layout) (area : Rect) (back : Change)
      → ((layer : ℕ) (layout : Layout) (place : Place) → is_covered area place.square ≡ false → change layer layout place ≡ layout place)
      → PutsBack view.tech body area back
      → TakesBack view
      (option_map_or (λ layer. with_cell_changed view cell (λ held. record held { own = change layer held.own })) found view) cell back
  with_found None change area back outside puts =
      subst (λ (after : LibraryView). TakesBack view after cell back)
      (ap (λ (cells : List CellView). record view { cells = cells }) (changed_at-same view.cells cell (λ held. held) (λ held. refl)))
      (paint_taken_back view cell there area back (λ own. own) (λ layout place _. refl) puts)
  with_found (Some layer) change area back outside puts = paint_taken_back view cell there area back (change layer) (outside layer) puts

  -- a paint is taken back
  pub painting_taken_back : (layer : List ℕ) (area : Rect) (back : Change) → PutsBack view.tech body area back
      → TakesBack view (applied editing (command.Paint layer area)).library cell back
  painting_taken_back layer area back puts =
      with_found (layer_named view.tech layer) (λ number own. with_paint view.tech number area own) area back
      (λ number layout place outside. columns_outside (painted_column view.tech number) area layout place outside) puts

  -- what was erased is taken back
  pub erasing_taken_back : (layer : List ℕ) (area : Rect) (back : Change) → PutsBack view.tech body area back
      → TakesBack view (applied editing (command.Erase layer area)).library cell back
  erasing_taken_back layer area back puts =
      with_found (layer_named view.tech layer) (λ number own. with_erased view.tech number area own) area back
      (λ number layout place outside. columns_outside (erased_column view.tech number) area layout place outside) puts

  -- ---- uses

  -- a new use is taken back
  pub placing_taken_back : (name id : List ℕ) (six : List ℤ) → Accepts editing (command.Place name id six)
      → TakesBack view (applied editing (command.Place name id six)).library cell (DeleteUse id)
  placing_taken_back name id six accepts =
      let child =
      found_there {A = ℕ} (cell_named view name) (λ told. told ≡ NoCell name) (NoCell name)
      (λ child told. LibraryRefuses editing id (PlaceIsRefused view cell child id six) told) refl accepts in
      subst (λ (found : Option ℕ). TakesBack view (option_map_or (λ at. placed view cell at id six) found view) cell (DeleteUse id)) (sym child.1.0)
      (elim (cases_Bool (has_id body.uses id)) [
        | inl has ↦ absurd (not_accepted editing id (PlaceIsRefused view cell child.0 id six) library.UseExists (inl (has, refl)) child.1.1)
        | inr new ↦ by_transform child.0 (transform_of six) new (λ none.
            not_accepted editing id (PlaceIsRefused view cell child.0 id six) library.BadTransform
            (inr ((λ has. true≢false (sym has ∙ new)), inl (none, refl))) child.1.1)
      ])
    where
      by_transform : (child : ℕ) (found : Option Transform) → has_id body.uses id ≡ false → (found ≡ None → ⊥)
          → TakesBack view (option_map_or (λ transform. with_cell_changed view cell (λ held. record held {
            uses = held.uses ++ (id, single_use child transform) ∷ [];
          })) found view) cell (DeleteUse id)
      by_transform child None new bad = absurd (bad refl)
      by_transform child (Some transform) new bad =
          subst (λ (after : LibraryView). TakesBack view after cell (DeleteUse id))
          (cell_alike view cell (λ held. record held { uses = insert held.uses (length body.uses) (id, single_use child transform) })
          (λ held. record held { uses = held.uses ++ (id, single_use child transform) ∷ [] })
          (ap (λ (uses : Uses). record body { uses = uses }) (insert_end body.uses (id, single_use child transform))))
          (insertion_taken_back view cell there (length body.uses) id (single_use child transform) new)

  -- an array of no use is refused
  pub arraying_refused : (id : List ℕ) (six : List ℤ) → has_id body.uses id ≡ false → (grid : Grid) → grid_of six ≡ Some grid
      → Accepts editing (command.Array id six) → ⊥
  arraying_refused id six none grid is accepts =
      not_accepted editing id (ArrayIsRefused view cell id grid) library.NoUse (inl (none, refl))
      (subst (λ (found : Option Grid). (told : EditFault) → MatchOption found ⊥ (λ g. LibraryRefuses editing id (ArrayIsRefused view cell id g) told) → ⊥)
      is accepts)

  -- an array is taken back
  pub arraying_taken_back : (id : List ℕ) (six : List ℤ) (back : Change) (grid : Grid) → grid_of six ≡ Some grid → has_id body.uses id ≡ true
      → IsLawfulView view → GivesGrid body id back → TakesBack view (applied editing (command.Array id six)).library cell back
  arraying_taken_back id six back grid is has lawful gives =
      subst (λ (found : Option Grid). TakesBack view (option_map_or (λ g. with_grid view cell id g) found view) cell back) (sym is)
      (grid_taken_back view cell there id back (λ used. record used { grid = Some grid }) (λ other g. refl) has lawful gives)

  -- a use that isn't there is not moved
  pub moving_there : (id : List ℕ) (dx dy : ℤ) → Accepts editing (command.Move id dx dy) → has_id body.uses id ≡ true
  moving_there id dx dy accepts = elim (cases_Bool (has_id body.uses id)) [
    | inl has ↦ has
    | inr none ↦ absurd (not_accepted editing id (MoveIsRefused view cell id dx dy) library.NoUse (inl (none, refl)) accepts)
  ]

  -- a move is taken back
  pub moving_taken_back : (id : List ℕ) (dx dy : ℤ) → Accepts editing (command.Move id dx dy)
      → TakesBack view (applied editing (command.Move id dx dy)).library cell (MoveUse id (neg_ℤ dx) (neg_ℤ dy))
  moving_taken_back id dx dy accepts = move_taken_back view cell there id dx dy (moving_there id dx dy accepts)

  -- nor is it deleted
  pub deleting_refused : (id : List ℕ) → has_id body.uses id ≡ false → Accepts editing (command.Delete id) → ⊥
  deleting_refused id none = not_accepted editing id (DeleteIsRefused view cell id) library.NoUse (inl (none, refl))

  -- a deletion is taken back
  pub deleting_taken_back : (id : List ℕ) (back : Change) → IsLawfulView view → BringsAgain body id back
      → TakesBack view (applied editing (command.Delete id)).library cell back
  deleting_taken_back id back lawful brings = deletion_taken_back view cell there id back lawful brings

  -- ---- labels

  -- a label is taken back
  pub labelling_taken_back : (layer : List ℕ) (area : Rect) (position : ℤ) (text : List ℕ) → Accepts editing (command.Label layer area position text)
      → TakesBack view (applied editing (command.Label layer area position text)).library cell DropLabel
  labelling_taken_back layer area position text accepts =
      let named =
      found_there {A = Option LayerId} (label_layer view.tech layer) (λ told. told ≡ NoLayer layer) (NoLayer layer)
      (λ l told. LibraryRefuses editing text (LabelIsRefused view cell (label_of l area position text)) told) refl accepts in
      subst (λ (found : Option (Option LayerId)).
      TakesBack view (option_map_or (λ l. labelled view cell (label_of l area position text)) found view) cell DropLabel)
      (sym named.1.0) (label_taken_back view cell there (label_of named.0 area position text))

  -- labels that go are taken back
  pub unlabelling_taken_back : (text : List ℕ) → TakesBack view (applied editing (command.Unlabel text)).library cell (SetLabels body.labels)
  unlabelling_taken_back text =
      labels_taken_back view cell there (λ labels. filter (λ (label : Label). not (bytes_eq label.text text)) labels)
