use Rattle.tile_plane.proofs.Common.{Rect, IsProper, tile_at, IsTaken}
use Rattle.tile_plane.proofs.LaidLaws.{value_partition, value_stitches, laid_value}
use Rattle.tile_plane.proofs.FillLaws.{laid_taken, laid_then_value}
use Rattle.tile_plane.proofs.pieces.set_part.Goals as goal

pub returns-clause-partition : goal.returns-clause-partition
returns-clause-partition c = value_partition c.part_of.new.store c.set_value.new.self c.in_ok-part.part c.args.band.now.value c.set_value.ensures
    c.in_ok-part.ensures.partition

pub returns-clause-stitches : goal.returns-clause-stitches
returns-clause-stitches c = value_stitches c.part_of.new.store c.set_value.new.self c.in_ok-part.part c.args.band.now.value c.set_value.ensures
    c.in_ok-part.ensures.stitches

pub returns-clause-laid : goal.returns-clause-laid
returns-clause-laid c =
    let old = c.args.store.now in
    let mid = c.part_of.new.store in
    let new = c.set_value.new.self in
    let part = c.in_ok-part.part in
    let band = c.args.band.now in
    let area : Rect = record (tile_at old c.args.id).area { ylo = band.area.ylo; yhi = band.area.yhi } in
    let was = c.requires.taken.proper in
    let proper : IsProper area = record { wide = was.wide; high = c.requires.high } in
    let taken : IsTaken mid part = laid_taken area (tile_at old c.args.id).value part old mid proper c.in_ok-part.ensures.laid in
    laid_then_value area (tile_at old c.args.id).value band.value part old mid new proper c.in_ok-part.ensures.laid
    (laid_value mid new part band.value c.set_value.ensures taken)
