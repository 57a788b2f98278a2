use Rattle.cell_records.proofs.Common.{◌≡◌, sym, ◌∙◌, ap, false≢true, same_from_test}
use Rattle.std.proofs.Common.{eqb, Some, None, find}
use Rattle.std.specs.Option.{option_copied}
use Rattle.finite_sets.proofs.Searches.{find-In, find-passes, find-none, list_any-source}
use Rattle.tech_model.specs.declared.raw.FetRule.{FetRule}
use Rattle.cell_records.proofs.fet_records.rule_of.Goals as goal

pub unreachable-requires : goal.unreachable-requires
unreachable-requires c =
    let kind = c.args.kind.0 in
    let fets = c.args.raw.now.fets in
    let found : find (λ (rule : FetRule). eqb rule.kind.0 kind) fets ≡ None = sym c.rule_for.ensures ∙ ap option_copied c.in-None.is in
    let x = list_any-source (λ (rule : FetRule). eqb rule.kind.0 kind) fets c.requires in
    false≢true (sym (find-none (λ (rule : FetRule). eqb rule.kind.0 kind) fets x.0 found x.1.0) ∙ x.1.1)

pub returns-clause-listed : goal.returns-clause-listed
returns-clause-listed c =
    let kind = c.args.kind.0 in
    let fets = c.args.raw.now.fets in
    let rule = c.in-Some.rule.now in
    let found : find (λ (rule : FetRule). eqb rule.kind.0 kind) fets ≡ Some rule = sym c.rule_for.ensures ∙ ap option_copied c.in-Some.is in
    find-In (λ (rule : FetRule). eqb rule.kind.0 kind) fets rule found

pub returns-clause-channel : goal.returns-clause-channel
returns-clause-channel c =
    let kind = c.args.kind.0 in
    let fets = c.args.raw.now.fets in
    let rule = c.in-Some.rule.now in
    let found : find (λ (rule : FetRule). eqb rule.kind.0 kind) fets ≡ Some rule = sym c.rule_for.ensures ∙ ap option_copied c.in-Some.is in
    same_from_test rule.kind.0 kind (find-passes (λ (rule : FetRule). eqb rule.kind.0 kind) fets rule found)
