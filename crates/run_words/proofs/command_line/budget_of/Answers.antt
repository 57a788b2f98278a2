use Rattle.std.proofs.Common.{◌∙◌, ap, sym}
use Rattle.std.proofs.lemmas.Int.{to_z-of_z}
use Rattle.run_words.specs.steps.ClapWords.{signed_budget}
use Rattle.run_words.proofs.BudgetLaws.{budget_by_number, budget_in, number_fits}
use Rattle.run_words.proofs.command_line.budget_of.Goals as goal

pub returns-in-Ok : goal.returns-in-Ok
returns-in-Ok c = c.as_budget.ensures ∙ ap signed_budget (to_z-of_z _ _ (number_fits c.args.digits.now c.in-Ok.value (sym c.number.ensures ∙ c.in-Ok.is)))
    ∙ ap budget_in (sym c.in-Ok.is ∙ c.number.ensures) ∙ budget_by_number c.args.digits.now

pub returns-in-Err : goal.returns-in-Err
returns-in-Err c = ap budget_in (sym c.in-Err.is ∙ c.number.ensures) ∙ budget_by_number c.args.digits.now
