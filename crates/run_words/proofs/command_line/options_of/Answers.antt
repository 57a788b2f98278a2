use Rattle.std.proofs.Common.{◌∙◌, ap, codes}
use Rattle.clap.specs.Words.{found_of}
use Rattle.clap.proofs.WalkLemmas.{first_value-rows, one_text-rows}
use Rattle.run_words.specs.steps.ClapWords.{budget_told}
use Rattle.run_words.proofs.command_line.options_of.Goals as goal

pub returns-clause-quiet : goal.returns-clause-quiet
returns-clause-quiet c = λ e. c.get_flag.ensures.value (one_text-rows (found_of c.args.matches.now) (codes "quiet") ∙ e)

pub returns-clause-heard : goal.returns-clause-heard
returns-clause-heard c = λ e. c.get_flag.ensures.other (one_text-rows (found_of c.args.matches.now) (codes "quiet") ∙ e)

pub returns-clause-budget : goal.returns-clause-budget
returns-clause-budget c = c.budget_told.ensures ∙ ap budget_told (c.get_str.ensures ∙ first_value-rows (found_of c.args.matches.now) (codes "budget"))
