use Rattle.cell_loading.proofs.Common.{length, seen}
use Rattle.mag_text.proofs.CellLibrary.ViewLaws.{count_seen}
use Rattle.cell_loading.proofs.KnownLaws.{full_either_way}
use Rattle.cell_loading.proofs.cell_files.is_full.Goals as goal

pub returns : goal.returns
returns c =
    full_either_way (length c.args.library.now.contents) (length (seen c.args.library.now).cells)
    (length c.args.cells.now) c.cell_count.result c.len.result
    c.cell_count.ensures c.len.ensures (count_seen c.args.library.now) c.lawful.ensures.few
