use Rattle.cell_records.proofs.Common.{◌≡◌, ◌+◌, ◌<◌, ℕ, ℤ, pos, ◌-ℤ◌, ◌<ℤ◌, true, List, length, get_or, take, to_z, of_z, arith, rules, ◌∙◌, ap}
use Rattle.cell_records.proofs.Common.{subst, w128, ints, to_z-of_z, sum_on, All-In}
use Rattle.cell_records.proofs.JoinedLaws.{part_bounds, sum_more}
use Rattle.cell_records.proofs.fet_records.gate_length.Goals as goal

pub overflow_sub-left : goal.overflow_sub-left
overflow_sub-left c =
    let fet = c.args.fet.now in
    let i = c.loop-terminal.terminal-index in
    let items = c.items-terminal-items.result.now in
    let t : ℕ × ℤ = get_or items i (0, pos 0) in
    let value : to_z w128 (of_z w128 t.1) ≡ t.1 = to_z-of_z w128 t.1 (search rules) in
    let bounds = part_bounds (λ u. true) fet.terminals (i + 1) (λ u among. All-In (λ (v : ℕ × ℤ). pos 0 <ℤ v.1) fet.terminals u c.requires.some among) in
    let inside : i < length fet.terminals = subst (λ (v : List (ℕ × ℤ)). i < length v) c.items-terminal-items.ensures c.loop-terminal-test.true in
    let same = ap (λ (v : List (ℕ × ℤ)). (get_or v i (0, pos 0)).1) c.items-terminal-items.ensures in
    let more = sum_more fet.terminals i (0, pos 0) inside in
    let left = c.loop-terminal.invariant in
    let few = c.requires.lengths in
    let most = c.requires.most_edges in
    let least = c.requires.some_edges in
    rw value (omega (arith, ints, bounds.0, bounds.1, same, more, left, few, most, least))

pub loop-terminal-preserved : goal.loop-terminal-preserved
loop-terminal-preserved c =
    let fet = c.args.fet.now in
    let i = c.loop-terminal.terminal-index in
    let items = c.items-terminal-items.result.now in
    let t : ℕ × ℤ = get_or items i (0, pos 0) in
    let value : to_z w128 (of_z w128 t.1) ≡ t.1 = to_z-of_z w128 t.1 (search rules) in
    let inside : i < length fet.terminals = subst (λ (v : List (ℕ × ℤ)). i < length v) c.items-terminal-items.ensures c.loop-terminal-test.true in
    let same = ap (λ (v : List (ℕ × ℤ)). (get_or v i (0, pos 0)).1) c.items-terminal-items.ensures in
    let more = sum_more fet.terminals i (0, pos 0) inside in
    let left = c.loop-terminal.invariant in
    let next : to_z w128 c.loop-terminal.left-bits -ℤ to_z w128 (of_z w128 t.1) ≡ fet.perimeter -ℤ sum_on (λ (u : ℕ × ℤ). u.1) (take (i + 1) fet.terminals) =
    rw value (omega (arith, ints, same, more, left)) in
    to_z-of_z w128 (to_z w128 c.loop-terminal.left-bits -ℤ to_z w128 (of_z w128 t.1)) (overflow_sub-left c) ∙ next
