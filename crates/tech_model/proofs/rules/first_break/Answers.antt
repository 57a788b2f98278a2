use Rattle.tech_model.proofs.Common.{◌∙◌, sym, get_or, drop_split, breaks_law}
use Rattle.std.proofs.lemmas.List.{get_or_default}
use Rattle.tech_model.proofs.PairSearch.{pairs_rest, pairs_here}
use Rattle.tech_model.proofs.rules.first_break.Goals as goal

pub returns-in-Some : goal.returns-in-Some
returns-in-Some c =
    let all = c.args.widenings.now in
    let found = sym c.second_break.ensures ∙ c.in-Some.is in
    let split =
    drop_split all c.loop-s.s-index (get_or all c.loop-s.s-index (0, 0)) c.loop-s-test.true
    (get_or_default all c.loop-s.s-index (0, 0) _ c.loop-s-test.true) in
    sym (c.loop-s.invariant ∙ pairs_here (breaks_law c.args.tech.now) _ (get_or all c.loop-s.s-index (0, 0)) _ all c.in-Some.t split found)

pub loop-s-preserved : goal.loop-s-preserved
loop-s-preserved c =
    let all = c.args.widenings.now in
    let none = sym c.second_break.ensures ∙ c.in_default.is in
    let split =
    drop_split all c.loop-s.s-index (get_or all c.loop-s.s-index (0, 0)) c.loop-s-test.true
    (get_or_default all c.loop-s.s-index (0, 0) _ c.loop-s-test.true) in
    c.loop-s.invariant ∙ pairs_rest (breaks_law c.args.tech.now) _ (get_or all c.loop-s.s-index (0, 0)) _ all split none
