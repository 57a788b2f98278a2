-- The span is that of the pieces so far, and there is none before the first.
use Rattle.run_plane.proofs.Common.{◌≡◌, take, MatchOption, Spans}
use Rattle.run_plane.proofs.changes.span_of.Given as goal

abbrev pub invariant-loop-piece : goal.invariant-loop-piece
invariant-loop-piece l = MatchOption l.span (l.piece-index ≡ 0) (λ span. Spans span (take l.piece-index l.pieces))
