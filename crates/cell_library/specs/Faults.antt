-- Why a change of a library is refused, where a call below it was.
use Rattle.cell_bodies.specs.CellPaint.declared.faults.PaintFault.{PaintFault}
use Rattle.cell_bodies.specs.CellPaint.declared.faults.PaintFault.TheVariants.{EmptyRect as NoSquare, OutOfRange as TooFar, TooManyTiles, Memory as NoMemory}
use Rattle.cell_library.specs.declared.faults.LibFault.{LibFault}
use Rattle.cell_library.specs.declared.faults.LibFault.TheVariants.{EmptyRect, OutOfRange, TooMany, Memory}
use Rattle.cell_library.specs.declared.limits.LibraryLimit.TheVariants.{Tiles}

-- what refuses paint, as a fault of the library
abbrev pub of_paint : PaintFault → LibFault
of_paint NoSquare = EmptyRect
of_paint TooFar = OutOfRange
of_paint TooManyTiles = TooMany Tiles
of_paint NoMemory = Memory
