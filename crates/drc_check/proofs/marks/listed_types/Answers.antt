use Rattle.drc_check.proofs.Common.{◌≡◌, ◌+◌, ◌++◌, ◌∷◌, [], inl, inr, List, take, sym, ap, subst, ◌∙◌, take_all, take_more, In, In-push_cases, Rule}
use Rattle.drc_check.proofs.Common.{IsListedType}
use Rattle.drc_check.proofs.marks.listed_types.Goals as goal

pub loop-rule-preserved : goal.loop-rule-preserved
loop-rule-preserved c =
    let rules = c.args.rules.now in
    let at = c.loop-rule.rule-index in
    let rule = c.rule-item.result in
    let next : take (at + 1) rules ≡ take at rules ++ rule ∷ [] =
    take_more rules at rule c.loop-rule-test.true ∙ ap (λ (r : Rule). take at rules ++ r ∷ []) (sym c.rule-item.is) in
    let first = c.mark_all.ensures in
    let second = c.mark_all-in-loop-rule.ensures in
    record {
      long = second.long;
      marked = λ plane kind listed.
          elim (In-push_cases listed.rule (take at rules) rule (subst (In listed.rule) next listed.among)) [
            | inl earlier ↦ second.kept kind.0 (first.kept kind.0 (c.loop-rule.invariant.marked plane kind
                (record { rule = listed.rule; among = earlier; lists = listed.lists })))
            | inr same ↦ elim listed.lists [
              | inl one ↦ second.kept kind.0 (first.marked kind
                  (subst (In kind) (ap (λ (r : Rule). r.first) (sym same) ∙ sym c.items.ensures) one.1))
              | inr other ↦ second.marked kind (subst (In kind) (ap (λ (r : Rule). r.second) (sym same) ∙ sym c.items-in-loop-rule.ensures) other.1)
            ]
          ];
    }

pub returns-clause-marked : goal.returns-clause-marked
returns-clause-marked c plane kind listed =
    c.loop-rule.invariant.marked plane kind
    (subst (λ (rules : List Rule). IsListedType rules plane kind) (sym (take_all c.loop-rule.rule-index c.args.rules.now c.loop-rule-test.false)) listed)
