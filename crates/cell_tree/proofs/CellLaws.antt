-- Writing one cell in the list of cells.
use Rattle.cell_tree.proofs.Common.{◌≡◌, ◌≢◌, inl, inr, ℕ, ◌<◌, List, length, get_or, slice_set, slice_get, sym, ap, ◌∙◌, option_map_or, cases_eq}
use Rattle.cell_tree.proofs.Common.{slice_get-get_or, slice_get-set_same, slice_get-set_other, TreeCell, CellState, state_of, states, cell_at}
use Rattle.cell_tree.proofs.Common.{empty_cell}
use Rattle.std.proofs.lemmas.List.{map-set, set-get_or, get_or-map}

module _ (cells : List TreeCell) (key : ℕ) (d : TreeCell) (within : key < length cells) where
  -- the cell as contracts see it
  pub cell_at-states : cell_at (states cells) key ≡ state_of (get_or cells key d)
  cell_at-states = get_or-map state_of cells key d empty_cell within

  -- writing a cell of another state
  pub write_states : (new : TreeCell) (f : CellState → CellState) → state_of new ≡ f (state_of (get_or cells key d))
      → states (slice_set cells key new) ≡ slice_set (states cells) key (f (cell_at (states cells) key))
  write_states new f is = map-set state_of cells key new ∙ ap (slice_set (states cells) key) (is ∙ ap f (sym cell_at-states))

  -- and of the same
  pub write_same : (new : TreeCell) → state_of new ≡ state_of (get_or cells key d) → states (slice_set cells key new) ≡ states cells
  write_same new is = write_states new (λ c. c) is ∙ set-get_or (states cells) key empty_cell

  -- something of each cell that is as it was in the one that is written
  pub write_kept : {X : Type 0} (f : TreeCell → X) (none : X) (new : TreeCell) → f new ≡ f (get_or cells key d)
      → (k : ℕ) → option_map_or f (slice_get (slice_set cells key new) k) none ≡ option_map_or f (slice_get cells k) none
  write_kept f none new is k =
      elim (cases_eq k key) [
        | inl same ↦
            ap (λ j. option_map_or f (slice_get (slice_set cells key new) j) none) same
            ∙ ap (λ o. option_map_or f o none) (slice_get-set_same cells key new within) ∙ is
            ∙ sym (ap (λ o. option_map_or f o none) (slice_get-get_or cells key d within))
            ∙ sym (ap (λ j. option_map_or f (slice_get cells j) none) same)
        | inr differs ↦ ap (λ o. option_map_or f o none) (slice_get-set_other cells key k new differs)
      ]

  -- and of the others
  pub write_others : {X : Type 0} (f : TreeCell → X) (none : X) (new : TreeCell) (k : ℕ) → k ≢ key
      → option_map_or f (slice_get (slice_set cells key new) k) none ≡ option_map_or f (slice_get cells k) none
  write_others f none new k differs = ap (λ o. option_map_or f o none) (slice_get-set_other cells key k new differs)

  -- in the one that is written
  pub write_here : {X : Type 0} (f : TreeCell → X) (none : X) (new : TreeCell) → option_map_or f (slice_get (slice_set cells key new) key) none ≡ f new
  write_here f none new = ap (λ o. option_map_or f o none) (slice_get-set_same cells key new within)

  -- before it is written
  pub read_here : {X : Type 0} (f : TreeCell → X) (none : X) → option_map_or f (slice_get cells key) none ≡ f (get_or cells key d)
  read_here f none = ap (λ o. option_map_or f o none) (slice_get-get_or cells key d within)
