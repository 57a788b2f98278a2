-- Each command that edits is refused for one fault.
use Rattle.uniqueness.proofs.Common.{◌≡◌, ℕ, ℤ, List, ap, sym, ◌∙◌, LibFault, Grid, Option, EditFault, IsForOneFault}
use Rattle.edit_script.specs.CellLibrary.Views.{cell_named}
use Rattle.tech_model.specs.declared.raw.LayerId.{LayerId}
use Rattle.tech_model.specs.Types.{layer_named}
use Rattle.edit_script.specs.ScriptLines.declared.commands.Command.TheVariants as command
use Rattle.edit_script.specs.declared.faults.EditFault.TheVariants.{NoCell, NoCurrent, NoLayer}
use Rattle.edit_script.specs.Editing.{Editing}
use Rattle.edit_script.specs.Edits.{grid_of, label_layer, label_of}
use Rattle.edit_script.specs.Refusals.{CellIsRefused, CurrentIsRefused, GridIsRefused, LabelLayerIsRefused, LayerIsRefused}
use Rattle.edit_script.specs.Refusals.{LibraryRefuses, with_word}
use Rattle.uniqueness.specs.Refusals.{CommandFaultsAreUnique}
use Rattle.uniqueness.proofs.LibraryFaults.{one_array, one_delete, one_erase, one_label, one_move, one_new, one_paint, one_place, one_unlabel}
use Rattle.uniqueness.proofs.OneFault.{first_of, of_found, this_fault}

module _ (editing : Editing) where
  -- what the library refuses is told with a word
  by_library : (word : List ℕ) (IsRefused : LibFault → Type 0) → IsForOneFault IsRefused → IsForOneFault (LibraryRefuses editing word IsRefused)
  by_library word IsRefused one told other p q =
      p.is ∙ ap (with_word word) (first_of _ _ IsRefused one p.fault q.fault p.is_refused q.is_refused) ∙ sym q.is

  -- edits of the current cell
  in_current : (IsRefused : ℕ → EditFault → Type 0) → ((cell : ℕ) → IsForOneFault (IsRefused cell)) → IsForOneFault (CurrentIsRefused editing IsRefused)
  in_current IsRefused each = of_found editing.current (λ told. told ≡ NoCurrent) IsRefused (this_fault NoCurrent) each

  -- with the cell of a name
  with_cell : (name : List ℕ) (IsRefused : ℕ → EditFault → Type 0) → ((cell : ℕ) → IsForOneFault (IsRefused cell))
      → IsForOneFault (CellIsRefused editing name IsRefused)
  with_cell name IsRefused each =
      of_found (cell_named editing.library name) (λ told. told ≡ NoCell name) IsRefused (this_fault (NoCell name)) each

  -- with the layer of a word
  with_layer : (word : List ℕ) (IsRefused : ℕ → EditFault → Type 0) → ((layer : ℕ) → IsForOneFault (IsRefused layer))
      → IsForOneFault (LayerIsRefused editing word IsRefused)
  with_layer word IsRefused each =
      of_found (layer_named editing.library.tech word) (λ told. told ≡ NoLayer word) IsRefused (this_fault (NoLayer word)) each

  with_label_layer : (word : List ℕ) (IsRefused : Option LayerId → EditFault → Type 0)
      → ((layer : Option LayerId) → IsForOneFault (IsRefused layer)) → IsForOneFault (LabelLayerIsRefused editing word IsRefused)
  with_label_layer word IsRefused each =
      of_found (label_layer editing.library.tech word) (λ told. told ≡ NoLayer word) IsRefused (this_fault (NoLayer word)) each

  -- with a grid
  with_grid : (six : List ℤ) (IsRefused : Grid → EditFault → Type 0) → ((grid : Grid) → IsForOneFault (IsRefused grid))
      → IsForOneFault (GridIsRefused six IsRefused)
  with_grid six IsRefused each = of_found (grid_of six) (λ told. ⊥) IsRefused (λ told other p q. absurd p) each

-- each command
pub one_refusal : CommandFaultsAreUnique
one_refusal editing (command.New name) = by_library editing name _ (one_new editing.library name)
one_refusal editing (command.Edit name) = with_cell editing name _ (λ cell told other p q. absurd p)
one_refusal editing (command.Paint layer area) =
    in_current editing _ (λ cell. with_layer editing layer _ (λ number. by_library editing layer _ (one_paint editing.library cell number area)))
one_refusal editing (command.Erase layer area) =
    in_current editing _ (λ cell. with_layer editing layer _ (λ number. by_library editing layer _ (one_erase editing.library cell number area)))
one_refusal editing (command.Place name id six) =
    in_current editing _ (λ cell. with_cell editing name _ (λ child. by_library editing id _ (one_place editing.library cell child id six)))
one_refusal editing (command.Array id six) =
    in_current editing _ (λ cell. with_grid editing six _ (λ grid. by_library editing id _ (one_array editing.library cell id grid)))
one_refusal editing (command.Move id dx dy) = in_current editing _ (λ cell. by_library editing id _ (one_move editing.library cell id dx dy))
one_refusal editing (command.Delete id) = in_current editing _ (λ cell. by_library editing id _ (one_delete editing.library cell id))
one_refusal editing (command.Label layer area position text) =
    in_current editing _ (λ cell. with_label_layer editing layer _ (λ named.
    by_library editing text _ (one_label editing.library cell (label_of named area position text))))
one_refusal editing (command.Unlabel text) = in_current editing _ (λ cell. by_library editing text _ (one_unlabel editing.library cell text))
one_refusal editing _ = λ told other p q. absurd p
