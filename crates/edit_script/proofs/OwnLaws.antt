-- Edits of paint and labels, as what comes of a command.
use Rattle.edit_script.proofs.Common.{◌≡◌, ℕ, ℤ, List, Option, Some, Result, LayerId, layer_named, CellKey, LibFault, painted, erased, labelled}
use Rattle.edit_script.proofs.Common.{unlabelled, LibraryParts, seen, UnlabelIsRefused, EditFault, Applies, IsTold, Editing, editing_of, label_layer}
use Rattle.edit_script.proofs.Common.{label_of, with_layer, with_label_layer}
use Rattle.geo_core.specs.declared.squares.Rect.{Rect}
use Rattle.tech_model.specs.declared.raw.Label.{Label}
use Rattle.cell_library.specs.Refusals.{PaintIsRefused, EraseIsRefused, LabelIsRefused}
use Rattle.script_lines.specs.declared.commands.Command.TheVariants as command
use Rattle.edit_script.specs.declared.faults.EditFault.TheVariants.{NoLayer}
use Rattle.edit_script.specs.Refusals.{LayerIsRefused, LabelLayerIsRefused, LibraryRefuses}
use Rattle.edit_script.proofs.AnswerLaws.{Answered, answered_as, answered_leaves, in_cell, in_found}

pub paint_applies : {X Y : Type 0} (old new : LibraryParts) (current : Option CellKey) (layer : List ℕ) (area : Rect) (cell : CellKey) (number : ℕ)
    (answer : Result X LibFault) (result : Result Y EditFault) → current ≡ Some cell → layer_named old.tech layer ≡ Some number →
    Answered old new cell.0 (painted (seen old) cell.0 number area) (PaintIsRefused (seen old) cell.0 number area) answer →
    IsTold layer answer result → Applies old current new current (command.Paint layer area) result
paint_applies old new current layer area cell number answer result is named answered told =
    let editing : Editing = editing_of old current in
    in_cell old new current (λ at. with_layer (seen old) layer (λ l. painted (seen old) at l area))
    (λ at. LayerIsRefused editing layer (λ l. LibraryRefuses editing layer (PaintIsRefused (seen old) at l area))) result cell is
    (in_found {A = ℕ} old new current (λ l. painted (seen old) cell.0 l area) (λ fault. fault ≡ NoLayer layer)
    (λ l. LibraryRefuses editing layer (PaintIsRefused (seen old) cell.0 l area)) result (layer_named old.tech layer) number named
    (answered_leaves old new current cell.0 layer (painted (seen old) cell.0 number area) (PaintIsRefused (seen old) cell.0 number area) answer result
    answered told))

pub erase_applies : {X Y : Type 0} (old new : LibraryParts) (current : Option CellKey) (layer : List ℕ) (area : Rect) (cell : CellKey) (number : ℕ)
    (answer : Result X LibFault) (result : Result Y EditFault) → current ≡ Some cell → layer_named old.tech layer ≡ Some number →
    Answered old new cell.0 (erased (seen old) cell.0 number area) (EraseIsRefused (seen old) cell.0 number area) answer →
    IsTold layer answer result → Applies old current new current (command.Erase layer area) result
erase_applies old new current layer area cell number answer result is named answered told =
    let editing : Editing = editing_of old current in
    in_cell old new current (λ at. with_layer (seen old) layer (λ l. erased (seen old) at l area))
    (λ at. LayerIsRefused editing layer (λ l. LibraryRefuses editing layer (EraseIsRefused (seen old) at l area))) result cell is
    (in_found {A = ℕ} old new current (λ l. erased (seen old) cell.0 l area) (λ fault. fault ≡ NoLayer layer)
    (λ l. LibraryRefuses editing layer (EraseIsRefused (seen old) cell.0 l area)) result (layer_named old.tech layer) number named
    (answered_leaves old new current cell.0 layer (erased (seen old) cell.0 number area) (EraseIsRefused (seen old) cell.0 number area) answer result
    answered told))

pub label_applies : {X Y : Type 0} (old new : LibraryParts) (current : Option CellKey) (layer : List ℕ) (area : Rect) (position : ℤ) (text : List ℕ)
    (cell : CellKey) (number : Option LayerId) (label : Label) (answer : Result X LibFault) (result : Result Y EditFault) → current ≡ Some cell →
    label_layer old.tech layer ≡ Some number → label ≡ label_of number area position text →
    Answered old new cell.0 (labelled (seen old) cell.0 label) (LabelIsRefused (seen old) cell.0 label) answer → IsTold text answer result →
    Applies old current new current (command.Label layer area position text) result
label_applies old new current layer area position text cell number label answer result is named same answered told =
    let editing : Editing = editing_of old current in
    in_cell old new current (λ at. with_label_layer (seen old) layer (λ l. labelled (seen old) at (label_of l area position text)))
    (λ at. LabelLayerIsRefused editing layer (λ l. LibraryRefuses editing text (LabelIsRefused (seen old) at (label_of l area position text)))) result
    cell is (in_found {A = Option LayerId} old new current (λ l. labelled (seen old) cell.0 (label_of l area position text))
    (λ fault. fault ≡ NoLayer layer) (λ l. LibraryRefuses editing text (LabelIsRefused (seen old) cell.0 (label_of l area position text))) result
    (label_layer old.tech layer) number named (answered_leaves old new current cell.0 text
    (labelled (seen old) cell.0 (label_of number area position text)) (LabelIsRefused (seen old) cell.0 (label_of number area position text)) answer
    result (answered_as {A = Label} old new cell.0 (labelled (seen old) cell.0) (LabelIsRefused (seen old) cell.0) answer label
    (label_of number area position text) same answered) told))

pub unlabel_applies : {X Y : Type 0} (old new : LibraryParts) (current : Option CellKey) (text : List ℕ) (cell : CellKey) (given : List ℕ)
    (answer : Result X LibFault) (result : Result Y EditFault) → current ≡ Some cell → given ≡ text →
    Answered old new cell.0 (unlabelled (seen old) cell.0 given) (UnlabelIsRefused (seen old) cell.0 given) answer → IsTold text answer result →
    Applies old current new current (command.Unlabel text) result
unlabel_applies old new current text cell given answer result is same answered told =
    in_cell old new current (λ at. unlabelled (seen old) at text)
    (λ at. LibraryRefuses (editing_of old current) text (UnlabelIsRefused (seen old) at text)) result cell is
    (answered_leaves old new current cell.0 text (unlabelled (seen old) cell.0 text) (UnlabelIsRefused (seen old) cell.0 text) answer result
    (answered_as {A = List ℕ} old new cell.0 (unlabelled (seen old) cell.0) (UnlabelIsRefused (seen old) cell.0) answer given text same answered)
    told)
