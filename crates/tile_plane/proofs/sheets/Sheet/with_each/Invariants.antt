-- The pieces before the index are set.
use Rattle.tile_plane.proofs.Common.{take, AreSet, value_at, IsSheet}
use Rattle.tile_plane.proofs.sheets.Sheet.with_each.Given as goal

abbrev pub invariant-loop-piece : goal.invariant-loop-piece
invariant-loop-piece l = IsSheet l.self × AreSet (value_at l.initial.self.store) (value_at l.self.store) (take l.piece-index l.pieces)
