use Rattle.tech_model.proofs.Common.{◌∙◌, ◌+◌, ◌-◌, sym, arith, range_split, types_of, have_one_set}
use Rattle.tech_model.proofs.PairSearch.{pairs_rest, pairs_here}
use Rattle.tech_model.proofs.rules.first_of_one_set.Goals as goal

pub returns-in-Some : goal.returns-in-Some
returns-in-Some c =
    let found = sym c.second_with_set.ensures ∙ c.in-Some.is in
    let split = range_split c.loop-s.s (c.type_count-end.result + 1 - c.loop-s.s) (c.type_count-end.result - c.loop-s.s) (omega arith) in
    sym (c.loop-s.invariant ∙ pairs_here (have_one_set c.args.tech.now) _ c.loop-s.s _ (types_of c.args.tech.now) c.in-Some.t split found)

pub loop-s-preserved : goal.loop-s-preserved
loop-s-preserved c =
    let none = sym c.second_with_set.ensures ∙ c.in_default.is in
    let split = range_split c.loop-s.s (c.type_count-end.result + 1 - c.loop-s.s) (c.type_count-end.result + 1 - (c.loop-s.s + 1)) (omega arith) in
    c.loop-s.invariant ∙ pairs_rest (have_one_set c.args.tech.now) _ c.loop-s.s _ (types_of c.args.tech.now) split none
