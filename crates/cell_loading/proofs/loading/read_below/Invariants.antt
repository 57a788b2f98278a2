use Rattle.cell_loading.proofs.Common.{◌≡◌, ◌<◌, [], ◌∷◌, length, Files, after_fetches, seen, files_read, names_left, AreSoFar, GoesOnToBodies}
use Rattle.std.proofs.Common.{Some}
use Rattle.session_model.specs.Causes.{IsCalm}
use Rattle.cell_loading.specs.steps.Walks.{work_left, AreFrames}
use Rattle.cell_loading.proofs.loading.read_below.Given as goal

abbrev pub invariant-steps : goal.invariant-steps
invariant-steps g l = record {
  so_far : AreSoFar (seen l.library) l.walk.cells (names_left l.walk.cells l.walk.frames.items);
  frames : AreFrames (length l.walk.cells) l.walk.frames.items;
  some : 0 < length l.walk.cells;
  calm : IsCalm g.F.Shelf l.fn.shelf l.shelf;
  asked : g.F.Shelf.fetch_plan l.shelf ≡ after_fetches (g.F.Shelf.fetch_plan l.fn.shelf) (files_read l.walk.cells);
  files : g.F.Shelf.files l.shelf ≡ g.F.Shelf.files l.fn.shelf;
  goes_on : (files : Files) → g.F.Shelf.files l.fn.shelf ≡ Some files
      → GoesOnToBodies files (seen l.library) [] (l.root ∷ []) l.walk.cells (names_left l.walk.cells l.walk.frames.items);
}

abbrev pub decreases-steps : goal.decreases-steps
decreases-steps g l = work_left l.walk.cells l.walk.frames.items
