use Rattle.ext_reading.proofs.LawfulLines.{says-named}
use Rattle.ext_reading.proofs.reading.ExtDraftLineReader.read_line.Goals as goal

pub take-requires : goal.take-requires
take-requires c = says-named c.args.line.now c.in_ok-said.said c.in_ok-said.ensures.read
