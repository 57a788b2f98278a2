use Rattle.session_model.proofs.Common.{AreCounted, ◌≡◌, ◌≤◌, ◌+◌, ℕ, List, Some, length, lines_of, Files, MeansInSound, acts_of, answers_in}
use Rattle.session_model.proofs.ProgressLaws.{UnderWay}
use Rattle.session_model.proofs.running.run_lines.Given as goal

abbrev pub invariant-loop-line : goal.invariant-loop-line
invariant-loop-line g l = record {
  numbered : l.number + length l.line-iterator ≤ length l.text;
  sound : g.S.Session.is_sound l.session;
  same_store : g.F.Shelf.store_faults l.shelf ≡ g.F.Shelf.store_faults l.fn.shelf;
  same_fetch : g.F.Shelf.fetch_faults l.shelf ≡ g.F.Shelf.fetch_faults l.fn.shelf;
  same_report : g.K.Sink.faults l.report ≡ g.K.Sink.faults l.fn.report;
  more_absences : g.F.Shelf.absences l.fn.shelf ≤ g.F.Shelf.absences l.shelf;
  more_overlengths : g.F.Shelf.overlengths l.fn.shelf ≤ g.F.Shelf.overlengths l.shelf;
  way : (before : List ℕ) (files : Files) → g.K.Sink.written l.fn.report ≡ Some before → g.F.Shelf.files l.fn.shelf ≡ Some files
      → (way : UnderWay (MeansInSound g.S.Session.state g.S.Session.is_sound g.S.Session.means) l.quiet (g.S.Session.state l.fn.session) files before
      (g.F.Shelf.fetch_plan l.fn.shelf) (g.F.Shelf.fetch_plan l.shelf) (lines_of l.text)
      (g.S.Session.state l.session) (g.F.Shelf.files l.shelf) (g.K.Sink.written l.report) l.number l.told l.line-iterator)
      × AreCounted g.F.Shelf l.fn.shelf l.shelf (answers_in (acts_of way.done));
}
