-- The runs so far are added.
use Rattle.run_plane.proofs.Common.{◌≡◌, ◌++◌, map, take, piece_of}
use Rattle.run_plane.proofs.listings.push_runs.Given as goal

abbrev pub invariant-loop-run : goal.invariant-loop-run
invariant-loop-run l = l.pieces.items ≡ l.initial.pieces.items ++ map (piece_of l.ylo l.yhi) (take l.run-index l.runs)
