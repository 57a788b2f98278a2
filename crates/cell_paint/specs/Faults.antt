-- Why paint is refused where a plane refuses.
use Rattle.geo_core.specs.declared.planes.PlaneFault.{PlaneFault}
use Rattle.geo_core.specs.declared.planes.PlaneFault.TheVariants.{Full, Memory as NoMemory}
use Rattle.cell_paint.specs.declared.faults.PaintFault.{PaintFault}
use Rattle.cell_paint.specs.declared.faults.PaintFault.TheVariants.{TooManyTiles, Memory}

-- Too many tiles are too many tiles, and want of memory is want of memory.
abbrev pub of_plane : PlaneFault → PaintFault
of_plane Full = TooManyTiles
of_plane NoMemory = Memory
