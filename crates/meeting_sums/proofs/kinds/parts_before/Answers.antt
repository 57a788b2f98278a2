use Rattle.meeting_sums.proofs.Common.{◌≡◌, ◌+◌, ◌<◌, ◌≤◌, true, false, sym, subst, length, get_or, arith, rules, get_or-take, get_or-drop}
use Rattle.meeting_sums.proofs.Common.{length-take, length-drop, PartKind}
use Rattle.std.specs.Prelude.{nat_lt}
use Rattle.std.proofs.lemmas.Bool.Decides.{nat_tests}
use Rattle.std.proofs.lemmas.List.Sorted.{IsPartitionPoint-from_clause, IsPartitionedBy-ltb}
use Rattle.meeting_sums.proofs.KindLaws.{rising_parts}
use Rattle.meeting_sums.proofs.kinds.parts_before.Goals as goal

pub returns-clause-before : goal.returns-clause-before
returns-clause-before c = λ k d h.
    let kinds = c.args.kinds.now in
    let part = c.args.part in
    let point = IsPartitionPoint-from_clause (λ (entry : PartKind). nat_lt entry.part part) kinds c.partition_point.result
    c.partition_point.ensures.partitioned (IsPartitionedBy-ltb (λ (entry : PartKind). entry.part) kinds part (rising_parts kinds c.requires))
    (λ a r f h. search rules) in
    let first : k < c.partition_point.result = omega (arith, length-take c.partition_point.result kinds, h) in
    let passes : nat_lt (get_or kinds k d).part part ≡ true = point.0 k d (omega arith) first in
    let below : (get_or kinds k d).part < part = grind (arith, nat_tests) in
    subst (λ (entry : PartKind). entry.part < part) (sym (get_or-take c.partition_point.result kinds k d first)) below

pub returns-clause-after : goal.returns-clause-after
returns-clause-after c = λ k d h.
    let kinds = c.args.kinds.now in
    let part = c.args.part in
    let count = c.partition_point.result in
    let point = IsPartitionPoint-from_clause (λ (entry : PartKind). nat_lt entry.part part) kinds count
    c.partition_point.ensures.partitioned (IsPartitionedBy-ltb (λ (entry : PartKind). entry.part) kinds part (rising_parts kinds c.requires))
    (λ a r f h. search rules) in
    let last : count + k < length kinds = omega (arith, length-drop count kinds, h) in
    let fails : nat_lt (get_or kinds (count + k) d).part part ≡ false = point.1 (count + k) d (omega arith) last in
    let above : part ≤ (get_or kinds (count + k) d).part = grind (arith, nat_tests) in
    subst (λ (entry : PartKind). part ≤ entry.part) (sym (get_or-drop count kinds k d)) above
