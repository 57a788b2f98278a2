-- The rows below the index that the piece spans are set.
use Rattle.run_plane.proofs.SettingLaws.{IsSetUpTo}
use Rattle.run_plane.proofs.changes.set_piece.Given as goal

abbrev pub invariant-loop-index : goal.invariant-loop-index
invariant-loop-index l = IsSetUpTo l.piece l.first l.index l.initial.found.items l.found.items
