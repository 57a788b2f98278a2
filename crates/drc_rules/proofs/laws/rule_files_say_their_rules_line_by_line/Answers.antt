use Rattle.drc_rules.proofs.FileLaws.{rules_of-Ok, rules_of-Err}
use Rattle.drc_rules.proofs.laws.rule_files_say_their_rules_line_by_line.Goals as goal

pub returns : goal.returns
returns c = record { read = rules_of-Ok; refused = rules_of-Err }
