use Rattle.std.proofs.Common.{◌≡◌, ◌≤◌, Ok, length}
use Rattle.std.specs.Prelude.{All}
use Rattle.std.proofs.lemmas.Result.{IfOk-weaker}
use Rattle.drc_rules.specs.declared.limits.TheConstants.{MOST_RULES}
use Rattle.drc_rules.specs.LawfulRules.{IsLawfulRule}
use Rattle.drc_rules.specs.RuleFiles.{rules_of}
use Rattle.drc_rules.proofs.LawfulLines.{rules_of-lawful, rules_of-few}
use Rattle.drc_rules.proofs.reading.read_drc.Goals as goal

pub returns-clause-lawful : goal.returns-clause-lawful
returns-clause-lawful c =
    let raw = c.args.tech.now in
    IfOk-weaker c.read_lines.result (λ rules. rules_of raw c.args.bytes.now ≡ Ok rules.rules) (λ rules. All (IsLawfulRule raw) rules.rules)
    (λ rules read. rules_of-lawful raw c.args.bytes.now rules.rules c.raw.ensures.well_formed read) c.read_lines.ensures.read

pub returns-clause-few : goal.returns-clause-few
returns-clause-few c =
    let raw = c.args.tech.now in
    IfOk-weaker c.read_lines.result (λ rules. rules_of raw c.args.bytes.now ≡ Ok rules.rules) (λ rules. length rules.rules ≤ MOST_RULES)
    (λ rules read. rules_of-few raw c.args.bytes.now rules.rules read) c.read_lines.ensures.read
