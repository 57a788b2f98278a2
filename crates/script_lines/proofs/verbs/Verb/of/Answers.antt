use Rattle.script_lines.proofs.Common.{rules}
use Rattle.script_lines.specs.Verbs.{verb_of}
use Rattle.script_lines.proofs.verbs.Verb.of.Goals as goal

pub returns : goal.returns
unfolding verb_of
returns c = search rules
