use Rattle.cif_reading.proofs.LawfulDrafts.{parts-lawful}
use Rattle.cif_reading.proofs.reading.read_cif.Goals as goal

pub into_cif-requires : goal.into_cif-requires
into_cif-requires c = parts-lawful c.args.bytes.now c.in-Ok.draft c.in-Ok.ensures.read
