use Rattle.full_names.proofs.GlobalLaws.{last_tested}
use Rattle.full_names.proofs.globals.ends_with.Goals as goal

pub returns-in-Some : goal.returns-in-Some
returns-in-Some c = last_tested c.args.names.now c.in-Some.last.now c.args.text.now c.eq.result c.in-Some.ensures.value c.eq.ensures
