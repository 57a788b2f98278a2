-- Records agree with a library after each edit of it.
use Rattle.ext_cache.proofs.Common.{◌≡◌, [], ◌∷◌, ◌++◌, ◌∙◌, length, arith, length-append, get_or_append_left, seen, no_cell, view_at}
use Rattle.tree_merges.specs.CellLibrary.Edits.{empty_cell}
use Rattle.tree_merges.proofs.CellLibrary.ViewLaws.{length-changed_at}
use Rattle.ext_cache.specs.Laws.{AddedCellsKeepAgreement, EditsKeepAgreement, NewCellsKeepAgreement}
use Rattle.ext_cache.proofs.ArrivalLaws.{agrees_all, agrees_cell, dirty_cell, dirty_cells}
use Rattle.ext_cache.proofs.EditLaws.{agrees_edit, dirty_edit, dirty_unedited}

-- an edit of a cell
pub kept_by_edit : EditsKeepAgreement
kept_by_edit old new records cell change lawful edit after agrees =
    let as_many = length-changed_at (seen old).cells cell change in
    let count : length (seen new).cells ≡ length (seen old).cells = (λ i. length (after i).cells) ∙ as_many in
    record {
      agrees = agrees_edit old new records cell lawful edit agrees count (λ i. (after i).tech) change after;
      edited = dirty_edit old new records cell lawful edit agrees;
      others = dirty_unedited old new records cell lawful edit agrees;
    }

-- a cell that comes
pub kept_by_cell : NewCellsKeepAgreement
kept_by_cell old new records name lawful came after agrees =
    let cells = (seen old).cells in
    let long : length (seen new).cells ≡ length (cells ++ empty_cell name ∷ []) = λ i. length (after i).cells in
    record {
      agrees = agrees_cell old new records lawful came agrees (omega (arith, long, length-append cells (empty_cell name ∷ [])))
          (λ i. (after i).tech)
          (λ cell below. (λ i. view_at (after i) cell) ∙ get_or_append_left cells (empty_cell name ∷ []) no_cell cell below);
      marks = dirty_cell old new records lawful came agrees;
    }

-- cells that come all at once
pub kept_by_cells : AddedCellsKeepAgreement
kept_by_cells old new records cells lawful came after agrees = record {
  agrees = agrees_all old new records cells lawful came agrees after;
  marks = dirty_cells old new records cells lawful came agrees;
}
