use Rattle.plain_records.proofs.Common.{sym}
use Rattle.plain_records.proofs.CutLaws.{cut_back, cut_none}
use Rattle.plain_records.proofs.merges.cut_at.Goals as goal

pub returns-in-Some-clause-back : goal.returns-in-Some-clause-back
returns-in-Some-clause-back c = cut_back c.args.mark c.in-Some.end c.args.text.now (sym c.in-Some.ensures)

pub returns-in-None-clause-back : goal.returns-in-None-clause-back
returns-in-None-clause-back c = sym (cut_none c.args.mark c.args.text.now (sym c.in-None.ensures))
