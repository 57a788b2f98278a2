use Rattle.ext_reading.proofs.Common.{sym}
use Rattle.ext_reading.proofs.PathLaws.{before_found, behind_found, before_whole, behind_nothing}
use Rattle.ext_reading.proofs.use_names.cut_at.Goals as goal

pub returns-in-Some-clause-front : goal.returns-in-Some-clause-front
returns-in-Some-clause-front c = before_found c.args.mark c.args.text.now c.in-Some.at (sym c.in-Some.ensures)

pub returns-in-Some-clause-back : goal.returns-in-Some-clause-back
returns-in-Some-clause-back c = behind_found c.args.mark c.args.text.now c.in-Some.at (sym c.in-Some.ensures)

pub returns-in-None-clause-front : goal.returns-in-None-clause-front
returns-in-None-clause-front c = before_whole c.args.mark c.args.text.now (sym c.in-None.ensures)

pub returns-in-None-clause-back : goal.returns-in-None-clause-back
returns-in-None-clause-back c = behind_nothing c.args.mark c.args.text.now (sym c.in-None.ensures)
