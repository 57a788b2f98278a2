use Rattle.tech_model.proofs.Common.{◌∙◌, sym, get_or, subst, ap, ◌<◌, length, List, find-In, drop_split, FetRule, is_bad_terminal}
use Rattle.tech_model.proofs.PairSearch.{each_rest, each_here}
use Rattle.tech_model.proofs.RuleLaws.{terminal_types}
use Rattle.tech_model.proofs.rules.first_terminal.Goals as goal

pub returns-in-Some-clause-found : goal.returns-in-Some-clause-found
returns-in-Some-clause-found c =
    let fets : List FetRule = c.args.tech.now.fets in
    let same = c.items-fet-items.ensures ∙ ap (λ raw. raw.fets) c.raw.ensures.value in
    let inside : c.loop-fet.fet-index < length fets = subst (λ (l : List FetRule). c.loop-fet.fet-index < length l) same c.loop-fet-test.true in
    let is = c.fet-item.is ∙ ap (λ (l : List FetRule). get_or l c.loop-fet.fet-index c.fet-item.result) same in
    let found = sym c.terminal_of.ensures ∙ c.in-Some.is in
    sym (c.loop-fet.invariant
    ∙ each_here (is_bad_terminal c.args.tech.now) (λ (fet : FetRule). fet.kind) (λ fet. fet.terminals) _ c.fet-item.result _ c.in-Some.t
    (drop_split fets c.loop-fet.fet-index c.fet-item.result inside is) found)

pub returns-in-Some-clause-types : goal.returns-in-Some-clause-types
returns-in-Some-clause-types c =
    let found = returns-in-Some-clause-found c in
    terminal_types c.args.tech.now (c.fet-item.result.kind, c.in-Some.t) c.raw.ensures.well_formed (find-In _ _ _ (sym found))

pub loop-fet-preserved : goal.loop-fet-preserved
loop-fet-preserved c =
    let fets : List FetRule = c.args.tech.now.fets in
    let same = c.items-fet-items.ensures ∙ ap (λ raw. raw.fets) c.raw.ensures.value in
    let inside : c.loop-fet.fet-index < length fets = subst (λ (l : List FetRule). c.loop-fet.fet-index < length l) same c.loop-fet-test.true in
    let is = c.fet-item.is ∙ ap (λ (l : List FetRule). get_or l c.loop-fet.fet-index c.fet-item.result) same in
    let none = sym c.terminal_of.ensures ∙ c.in_default.is in
    c.loop-fet.invariant
    ∙ each_rest (is_bad_terminal c.args.tech.now) (λ (fet : FetRule). fet.kind) (λ fet. fet.terminals) _ c.fet-item.result _
    (drop_split fets c.loop-fet.fet-index c.fet-item.result inside is) none
