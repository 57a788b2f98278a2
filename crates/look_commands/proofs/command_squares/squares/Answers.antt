use Rattle.std.proofs.Common.{◌<◌, length, subst, sym}
use Rattle.cell_library.specs.Libraries.{LibraryParts}
use Rattle.look_commands.proofs.command_squares.squares.Goals as goal

pub squares_of-requires-clause-cell : goal.squares_of-requires-clause-cell
squares_of-requires-clause-cell c =
    subst (λ (library : LibraryParts). c.args.cell.0 < length library.contents) (sym c.reader-cells.ensures) c.requires
