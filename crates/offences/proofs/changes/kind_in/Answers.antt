use Rattle.offences.proofs.Common.{◌≡◌, ℕ, true, false, get_or, List, sym, arith, rules, type_number, PartKind, AreByPart}
use Rattle.std.specs.Prelude.{nat_lt}
use Rattle.std.specs.List.Sorted.{IsPartitionedBy, IsPartitionPoint}
use Rattle.std.proofs.lemmas.Bool.{ltb-true, ltb-false, lt-ltb}
use Rattle.std.proofs.lemmas.List.Sorted.{IsPartitionPoint-from_clause}
use Rattle.offences.proofs.KindLaws.{IsSplitAt, found_nowhere, found_at, found_later, rises}
use Rattle.offences.proofs.changes.kind_in.Goals as goal

abbrev no_entry : PartKind
no_entry = record { part = 0; kind = type_number 0 }

-- the lower parts stand first
parts_split : (kinds : List PartKind) (part : ℕ) → AreByPart kinds → IsPartitionedBy (λ entry. nat_lt entry.part part) kinds
parts_split kinds part ordered i j d p q t =
    let rise = rises kinds ordered i j d p q in
    let low = ltb-true (get_or kinds j d).part part t in
    lt-ltb (get_or kinds i d).part part (omega arith)

-- and end at the place that is found
split_at : (kinds : List PartKind) (part place : ℕ)
    → IsPartitionPoint (λ entry. nat_lt entry.part part ≡ true) (λ entry. nat_lt entry.part part ≡ false) kinds place → IsSplitAt kinds part place
split_at kinds part place point = record {
  lower = λ k d h. ltb-true (get_or kinds k d).part part (point.0 k d (omega arith) h);
  rest = λ k d p q. ltb-false (get_or kinds k d).part part (point.1 k d p q);
}

pub returns-then-place-kinds : goal.returns-then-place-kinds
returns-then-place-kinds c =
    let kinds = c.args.kinds.now in
    let part = c.args.part in
    let place = c.partition_point-place.result in
    let split = split_at kinds part place
    (IsPartitionPoint-from_clause (λ (entry : PartKind). nat_lt entry.part part) kinds place c.partition_point-place.ensures.partitioned
    (parts_split kinds part c.requires) (λ a r f h. search rules)) in
    let past = c.if-place-kinds.true in
    sym (found_nowhere kinds part place c.requires split (omega (arith, past)))

pub returns-then-entry-part : goal.returns-then-entry-part
returns-then-entry-part c =
    let kinds = c.args.kinds.now in
    let part = c.args.part in
    let place = c.partition_point-place.result in
    let split = split_at kinds part place
    (IsPartitionPoint-from_clause (λ (entry : PartKind). nat_lt entry.part part) kinds place c.partition_point-place.ensures.partitioned
    (parts_split kinds part c.requires) (λ a r f h. search rules)) in
    let inside = c.if-place-kinds.false in
    let bound = c.partition_point-place.ensures.bound in
    sym (found_at kinds part place c.requires split no_entry (omega (arith, inside, bound)) c.if-entry-part.true)

pub returns-else-entry-part : goal.returns-else-entry-part
returns-else-entry-part c =
    let kinds = c.args.kinds.now in
    let part = c.args.part in
    let place = c.partition_point-place.result in
    let split = split_at kinds part place
    (IsPartitionPoint-from_clause (λ (entry : PartKind). nat_lt entry.part part) kinds place c.partition_point-place.ensures.partitioned
    (parts_split kinds part c.requires) (λ a r f h. search rules)) in
    let inside = c.if-place-kinds.false in
    let bound = c.partition_point-place.ensures.bound in
    sym (found_later kinds part place c.requires split no_entry (omega (arith, inside, bound)) c.if-entry-part.false)
