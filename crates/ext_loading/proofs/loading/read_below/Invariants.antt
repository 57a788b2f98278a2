use Rattle.ext_loading.proofs.Common.{◌≡◌, [], ◌∷◌, reverse, Files, after_fetches, GoesOn, files_of, circuit_files}
use Rattle.std.proofs.Common.{Some}
use Rattle.session_model.specs.Causes.{IsCalm}
use Rattle.ext_loading.specs.steps.Trees.{work_left, AreSoFar}
use Rattle.ext_loading.proofs.loading.read_below.Given as goal

abbrev pub invariant-names : goal.invariant-names
invariant-names g l = record {
  so_far : AreSoFar l.root l.walk.read (reverse l.walk.left.items);
  calm : IsCalm g.F.Shelf l.fn.shelf l.shelf;
  asked : g.F.Shelf.fetch_plan l.shelf ≡ after_fetches (g.F.Shelf.fetch_plan l.fn.shelf) (files_of circuit_files l.walk.read);
  files : g.F.Shelf.files l.shelf ≡ g.F.Shelf.files l.fn.shelf;
  goes_on : (files : Files) → g.F.Shelf.files l.fn.shelf ≡ Some files
      → GoesOn circuit_files files [] (l.root ∷ []) l.walk.read (reverse l.walk.left.items);
}

abbrev pub decreases-names : goal.decreases-names
decreases-names g l = work_left l.walk.read l.walk.left.items
