use Rattle.std.proofs.Common.{◌≡◌, ◌∙◌, rules, ap, ap₂, refl, codes, true, subst, map, string_bytes}
use Rattle.std.proofs.lemmas.Result.{IfOk-weaker}
use Rattle.clap.specs.Words.{App, FailsBy, app_of, fault_of, is_simple, is_simple_and_free, matches_of, new_app, rule_of, with_rule}
use Rattle.clap.specs.Simple.{app_of_fields, on_top}
use Rattle.clap.proofs.OnLiterals.{clap_on_literals}
use Rattle.run_words.specs.steps.ClapWords.{bare_command, budget_rule, command_line, quiet_rule}
use Rattle.run_words.proofs.command_line.parse.Goals as goal

is_plain : is_simple_and_free command_line ≡ true
unfolding clap_on_literals
is_plain = refl

command_is : (c : goal.After-try_get_matches_from) → app_of c.in_ok-command.command ≡ command_line
command_is c =
    let quiet_is : rule_of c.action-quiet.result ≡ quiet_rule = search rules in
    let budget_is : rule_of c.action-budget.result ≡ budget_rule = search rules in
    let plain_is : app_of c.new-3.result ≡ new_app (codes "magex") = c.new-3.ensures.app in
    let named_is : app_of c.no_binary_name.result ≡ on_top (λ s. record s { no_binary_name = true }) (new_app (codes "magex")) =
    ap app_of_fields c.no_binary_name.ensures ∙ ap (on_top (λ s. record s { no_binary_name = true })) plain_is in
    let bare_is : app_of c.disable_help_flag.result ≡ bare_command =
    ap app_of_fields c.disable_help_flag.ensures ∙ ap (on_top (λ s. record s { disable_help_flag = true })) named_is in
    c.in_ok-command.ensures.shape (search rules)
    ∙ ap₂ with_rule (c.in_ok-arg.ensures.shape (search rules) ∙ ap₂ with_rule bare_is quiet_is) budget_is

pub returns-clause-rows : goal.returns-clause-rows
returns-clause-rows c =
    let is = command_is c in
    IfOk-weaker c.try_get_matches_from.result _ _
    (λ m h. (h (ap is_simple is)).0 ∙ ap (λ (a : App). matches_of a (map string_bytes c.args.words.now)) is) c.try_get_matches_from.ensures.matches

pub returns-clause-faults : goal.returns-clause-faults
returns-clause-faults c =
    let is = command_is c in
    subst (λ (a : App). FailsBy (fault_of a (map string_bytes c.args.words.now)) c.try_get_matches_from.result) is
    (c.try_get_matches_from.ensures.kinds (ap is_simple_and_free is ∙ is_plain))
