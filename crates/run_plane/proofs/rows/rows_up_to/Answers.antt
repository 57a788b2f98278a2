use Rattle.run_plane.proofs.Common.{◌≡◌, ◌+◌, ◌<◌, ◌≤ℤ◌, ◌<ℤ◌, true, false, sym, subst, length, get_or, arith, rules, int_le, ints, get_or-take}
use Rattle.run_plane.proofs.Common.{get_or-drop, length-take, length-drop, IsPartitionPoint-from_clause, Row, edge}
use Rattle.run_plane.proofs.RowLaws.{rising_order}
use Rattle.run_plane.proofs.rows.rows_up_to.Goals as goal

pub returns-clause-below : goal.returns-clause-below
returns-clause-below c = λ k d h.
    let rows = c.args.rows.now in
    let y = c.args.y in
    let point = IsPartitionPoint-from_clause (λ (row : Row). int_le row.ylo y) rows c.partition_point.result c.partition_point.ensures.partitioned
    (λ i j d p q t. let less = rising_order edge rows c.requires i j d p q in grind (arith, ints)) (λ a r f h. search rules) in
    let first : k < c.partition_point.result = omega (arith, length-take c.partition_point.result rows, h) in
    let passes : int_le (get_or rows k d).ylo y ≡ true = point.0 k d (omega arith) first in
    let below : (get_or rows k d).ylo ≤ℤ y = grind (arith, ints) in
    subst (λ (row : Row). row.ylo ≤ℤ y) (sym (get_or-take c.partition_point.result rows k d first)) below

pub returns-clause-above : goal.returns-clause-above
returns-clause-above c = λ k d h.
    let rows = c.args.rows.now in
    let y = c.args.y in
    let count = c.partition_point.result in
    let point = IsPartitionPoint-from_clause (λ (row : Row). int_le row.ylo y) rows count c.partition_point.ensures.partitioned
    (λ i j d p q t. let less = rising_order edge rows c.requires i j d p q in grind (arith, ints)) (λ a r f h. search rules) in
    let last : count + k < length rows = omega (arith, length-drop count rows, h) in
    let fails : int_le (get_or rows (count + k) d).ylo y ≡ false = point.1 (count + k) d (omega arith) last in
    let above : y <ℤ (get_or rows (count + k) d).ylo = grind (arith, ints) in
    subst (λ (row : Row). y <ℤ row.ylo) (sym (get_or-drop count rows k d)) above
