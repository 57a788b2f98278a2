use Rattle.tech_model.proofs.Common.{◌∙◌, ◌+◌, ◌-◌, ◌++◌, ℕ, List, filter, ap, sym, arith, range_with_len, pairs_of, range_split, are_within}
use Rattle.tech_model.proofs.Common.{types_of}
use Rattle.tech_model.proofs.PairSearch.{filter_pairs}
use Rattle.tech_model.proofs.rules.widenings.Goals as goal

pub loop-s-preserved : goal.loop-s-preserved
loop-s-preserved c =
    let p = are_within c.args.tech.now in
    let rest : List ℕ = range_with_len (c.loop-s.s + 1) (c.type_count-end.result + 1 - (c.loop-s.s + 1)) in
    let split = range_split c.loop-s.s (c.type_count-end.result + 1 - c.loop-s.s) (c.type_count-end.result + 1 - (c.loop-s.s + 1)) (omega arith) in
    c.loop-s.invariant ∙ filter_pairs p c.loop-s.found.items _ c.loop-s.s rest (types_of c.args.tech.now) split
    ∙ ap (λ (front : List (ℕ × ℕ)). front ++ filter p (pairs_of rest (types_of c.args.tech.now))) (sym c.in_ok-add_widenings.ensures)
