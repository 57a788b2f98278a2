use Rattle.std.proofs.Common.{map, take}
use Rattle.std.specs.Prelude.{All}
use Rattle.cell_library.specs.Libraries.{seen}
use Rattle.library_answers.specs.HierMerge.UncleanCells.{IsCleanCell}
use Rattle.look_commands.proofs.command_squares.first_unclean.Given as goal

-- the cells so far are clean
abbrev pub invariant-loop-cell : goal.invariant-loop-cell
invariant-loop-cell g l = All (IsCleanCell (seen l.library)) (take l.cell-index (map (λ key. key.0) l.order))
