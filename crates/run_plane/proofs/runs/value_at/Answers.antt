use Rattle.run_plane.proofs.Common.{◌≡◌, ◌<◌, ◌≤◌, ◌≤ℤ◌, ◌<ℤ◌, ℕ, true, false, length, get_or, sym, ◌∙◌, ap, subst, arith, rules, cond, int_le, ints}
use Rattle.run_plane.proofs.Common.{IsPartitionPoint-from_clause, Run, edge}
use Rattle.run_plane.proofs.RunLaws.{run_ends_rise, value_found, value_none}
use Rattle.run_plane.proofs.runs.value_at.Goals as goal

pub returns-in_default : goal.returns-in_default
returns-in_default c =
    let runs = c.args.runs.now in
    let x = c.args.x in
    let first = c.partition_point-first.result in
    let point = IsPartitionPoint-from_clause (λ (run : Run). int_le run.xhi x) runs first c.partition_point-first.ensures.partitioned
    (λ i j d p q t. let rise = run_ends_rise edge runs c.requires i j d p q in grind (arith, ints)) (λ a r f h. search rules) in
    let past : (k : ℕ) (d : Run) → k < length runs → k < first → (get_or runs k d).xhi ≤ℤ x = λ k d p q.
    (let test : int_le (get_or runs k d).xhi x ≡ true = point.0 k d (omega arith) q in grind (arith, ints)) in
    let end : length runs ≤ first = search rules in
    sym (value_none runs x first c.requires past end)

pub returns-then-run-x : goal.returns-then-run-x
returns-then-run-x c =
    let runs = c.args.runs.now in
    let x = c.args.x in
    let run = c.in-Some.run'.now in
    let first = c.partition_point-first.result in
    let point = IsPartitionPoint-from_clause (λ (run : Run). int_le run.xhi x) runs first c.partition_point-first.ensures.partitioned
    (λ i j d p q t. let rise = run_ends_rise edge runs c.requires i j d p q in grind (arith, ints)) (λ a r f h. search rules) in
    let past : (k : ℕ) (d : Run) → k < length runs → k < first → (get_or runs k d).xhi ≤ℤ x = λ k d p q.
    (let test : int_le (get_or runs k d).xhi x ≡ true = point.0 k d (omega arith) q in grind (arith, ints)) in
    let below : first < length runs = search rules in
    let is : get_or runs first run ≡ run = search rules in
    let test : int_le (get_or runs first run).xhi x ≡ false = point.1 first run (omega arith) below in
    let ends : x <ℤ (get_or runs first run).xhi = grind (arith, ints) in
    let from : int_le run.xlo x ≡ true = search rules in
    ap (λ b. cond b run.value 0) (sym from) ∙ sym (value_found runs x first run c.requires past below is (subst (λ (r : Run). x <ℤ r.xhi) is ends))

pub returns-else-run-x : goal.returns-else-run-x
returns-else-run-x c =
    let runs = c.args.runs.now in
    let x = c.args.x in
    let run = c.in-Some.run'.now in
    let first = c.partition_point-first.result in
    let point = IsPartitionPoint-from_clause (λ (run : Run). int_le run.xhi x) runs first c.partition_point-first.ensures.partitioned
    (λ i j d p q t. let rise = run_ends_rise edge runs c.requires i j d p q in grind (arith, ints)) (λ a r f h. search rules) in
    let past : (k : ℕ) (d : Run) → k < length runs → k < first → (get_or runs k d).xhi ≤ℤ x = λ k d p q.
    (let test : int_le (get_or runs k d).xhi x ≡ true = point.0 k d (omega arith) q in grind (arith, ints)) in
    let below : first < length runs = search rules in
    let is : get_or runs first run ≡ run = search rules in
    let test : int_le (get_or runs first run).xhi x ≡ false = point.1 first run (omega arith) below in
    let ends : x <ℤ (get_or runs first run).xhi = grind (arith, ints) in
    let from : int_le run.xlo x ≡ false = search rules in
    ap (λ b. cond b run.value 0) (sym from) ∙ sym (value_found runs x first run c.requires past below is (subst (λ (r : Run). x <ℤ r.xhi) is ends))
