use Rattle.tech_model.proofs.Common.{◌∙◌, ◌+◌, ◌-◌, ◌++◌, ℕ, List, map, filter, ap, sym, arith, range_with_len, range_split, are_within}
use Rattle.tech_model.proofs.PairSearch.{filter_here, filter_rest}
use Rattle.tech_model.proofs.rules.add_widenings.Goals as goal
use Rattle.tech_model.proofs.rules.add_widenings.Goals.{then-within+in_ok-push, else-within}

pub loop-t-preserved : goal.loop-t-preserved
loop-t-preserved c =
    let p = are_within c.args.tech.now in
    let pair : ℕ → ℕ × ℕ = λ t. (c.args.s, t) in
    let rest : List (ℕ × ℕ) = map pair (range_with_len (c.loop-t.t + 1) (c.type_count-end.result + 1 - (c.loop-t.t + 1))) in
    let split =
    ap (map pair) (range_split c.loop-t.t (c.type_count-end.result + 1 - c.loop-t.t) (c.type_count-end.result + 1 - (c.loop-t.t + 1)) (omega arith)) in
    elim c.if-within.branch [
      | then-within+in_ok-push w ↦
          let items = ap (λ v. v.items) w.found-is ∙ w.in_ok-push.ensures.items in
          c.loop-t.invariant ∙ filter_here p c.loop-t.found.items _ (pair c.loop-t.t) rest split (sym c.within.ensures ∙ w.if-within.true)
          ∙ ap (λ (front : List (ℕ × ℕ)). front ++ filter p rest) (sym items)
      | else-within w ↦
          let items = ap (λ v. v.items) w.found-is in
          c.loop-t.invariant ∙ filter_rest p c.loop-t.found.items _ (pair c.loop-t.t) rest split (sym c.within.ensures ∙ w.if-within.false)
          ∙ ap (λ (front : List (ℕ × ℕ)). front ++ filter p rest) (sym items)
    ]
