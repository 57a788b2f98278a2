use Rattle.name_classes.proofs.Common.{sym}
use Rattle.name_classes.proofs.SplitLaws.{split_at_slash, no_slash}
use Rattle.name_classes.proofs.paths.split_path.Goals as goal

pub returns-in-Some-clause-some : goal.returns-in-Some-clause-some
returns-in-Some-clause-some c = split_at_slash c.args.path.now c.in-Some.at (sym c.in-Some.ensures)

pub returns-in-None-clause-none : goal.returns-in-None-clause-none
returns-in-None-clause-none c = no_slash c.args.path.now (sym c.in-None.ensures)
