use Rattle.ext_reading.proofs.LawfulLines.{use_line-named}
use Rattle.ext_reading.proofs.outlines.add_use.Goals as goal

pub add_said-requires : goal.add_said-requires
add_said-requires c = use_line-named c.args.words c.in-Ok.said c.in-Ok.ensures.read
