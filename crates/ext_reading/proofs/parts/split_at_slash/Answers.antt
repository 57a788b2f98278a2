use Rattle.ext_reading.proofs.Common.{sym, is_slash}
use Rattle.ext_reading.proofs.PathLaws.{split_at_place, split_nowhere}
use Rattle.ext_reading.proofs.parts.split_at_slash.Goals as goal

pub returns-in-Some-clause-parts : goal.returns-in-Some-clause-parts
returns-in-Some-clause-parts c = split_at_place is_slash c.args.text.now c.in-Some.end (sym c.in-Some.ensures)

pub returns-in-None-clause-parts : goal.returns-in-None-clause-parts
returns-in-None-clause-parts c = split_nowhere is_slash c.args.text.now (sym c.in-None.ensures)
