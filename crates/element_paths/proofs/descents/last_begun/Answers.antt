use Rattle.element_paths.proofs.Common.{◌≡◌, ℕ, ◌-◌, ◌<◌, ◌≤◌, List, length, get_or, inl, inr, ap, arith, rules, get_or_from_slice_get}
use Rattle.element_paths.proofs.Common.{slice_get_within, UseStart, HasBegun, IsLastBegun}
use Rattle.std.proofs.Common.{true, false}
use Rattle.std.specs.Prelude.{nat_le}
use Rattle.std.specs.List.Sorted.{IsNonDecreasingBy, IsPartitionedBy, IsPartitionPoint}
use Rattle.std.proofs.lemmas.Bool.{cases_lt, leb-false, leb-true}
use Rattle.std.proofs.lemmas.List.Sorted.{IsPartitionedBy-leb, IsPartitionPoint-from_clause}
use Rattle.std.proofs.lemmas.Option.{slice_get-get_or}
use Rattle.element_paths.proofs.descents.last_begun.Goals as goal

-- The uses before the place have begun at this number, and the others have not.
record IsSplitAt (starts : List UseStart) (element place : ℕ) : Type 0 where
  bound : place ≤ length starts
  begun : (k : ℕ) (d : UseStart) → k < place → (get_or starts k d).element ≤ element
  later : (k : ℕ) (d : UseStart) → place ≤ k → k < length starts → element < (get_or starts k d).element

split_at : (starts : List UseStart) (element place : ℕ) → place ≤ length starts
    → IsPartitionPoint (λ start. nat_le start.element element ≡ true) (λ start. nat_le start.element element ≡ false) starts place
    → IsSplitAt starts element place
split_at starts element place bound point = record {
  bound = bound;
  begun = λ k d h. leb-true (get_or starts k d).element element (point.0 k d (omega arith) h);
  later = λ k d p q. leb-false (get_or starts k d).element element (point.1 k d p q);
}

-- where the first use has begun, the place is past it
some_begun : (starts : List UseStart) (element place : ℕ) → HasBegun starts element → IsSplitAt starts element place → 0 < place
some_begun starts element place has split = elim (cases_lt 0 place) [
  | inl some ↦ some
  | inr none ↦
      let first = ap (λ (start : UseStart). start.element) (get_or_from_slice_get starts 0 has.first has.first has.there) in
      let begun = has.begun in
      absurd (omega (arith, split.later 0 has.first (omega (arith, none)) (slice_get_within starts 0 has.first has.there), first, begun))
]

-- the use before the place is the last that has begun
last_before : (starts : List UseStart) (element place : ℕ) → HasBegun starts element → IsSplitAt starts element place
    → IsLastBegun starts element (place - 1)
last_before starts element place has split =
    let some = some_begun starts element place has split in
    let bound = split.bound in
    record {
      start = get_or starts (place - 1) has.first;
      there = slice_get-get_or starts (place - 1) has.first (omega (arith, some, bound));
      begun = split.begun (place - 1) has.first (omega (arith, some));
      later = λ j other past is.
          let same = ap (λ (start : UseStart). start.element) (get_or_from_slice_get starts j other other is) in
          omega (arith, split.later j other (omega (arith, past, some)) (slice_get_within starts j other is), same);
    }

-- the place that the search finds
found_at : (starts : List UseStart) (element place : ℕ) → IsNonDecreasingBy (λ (start : UseStart). start.element) starts → place ≤ length starts
    → (IsPartitionedBy (λ (start : UseStart). nat_le start.element element) starts
    → IsPartitionPoint (λ start. nat_le start.element element ≡ true) (λ start. nat_le start.element element ≡ false) starts place)
    → IsSplitAt starts element place
found_at starts element place rise bound point =
    split_at starts element place bound (point (IsPartitionedBy-leb (λ (start : UseStart). start.element) starts element rise))

pub overflow_sub-result : goal.overflow_sub-result
overflow_sub-result c =
    some_begun c.args.starts.now c.args.element c.partition_point.result c.requires.begun
    (found_at c.args.starts.now c.args.element c.partition_point.result c.requires.rise c.partition_point.ensures.bound
    (λ parted. IsPartitionPoint-from_clause (λ (start : UseStart). nat_le start.element c.args.element) c.args.starts.now
    c.partition_point.result c.partition_point.ensures.partitioned parted (λ a r f h. search rules)))

pub returns-clause-within : goal.returns-clause-within
returns-clause-within c =
    let some : 0 < c.partition_point.result =
    some_begun c.args.starts.now c.args.element c.partition_point.result c.requires.begun
    (found_at c.args.starts.now c.args.element c.partition_point.result c.requires.rise c.partition_point.ensures.bound
    (λ parted. IsPartitionPoint-from_clause (λ (start : UseStart). nat_le start.element c.args.element) c.args.starts.now
    c.partition_point.result c.partition_point.ensures.partitioned parted (λ a r f h. search rules))) in
    let bound = c.partition_point.ensures.bound in
    omega (arith, some, bound)

pub returns-clause-last : goal.returns-clause-last
returns-clause-last c =
    last_before c.args.starts.now c.args.element c.partition_point.result c.requires.begun
    (found_at c.args.starts.now c.args.element c.partition_point.result c.requires.rise c.partition_point.ensures.bound
    (λ parted. IsPartitionPoint-from_clause (λ (start : UseStart). nat_le start.element c.args.element) c.args.starts.now
    c.partition_point.result c.partition_point.ensures.partitioned parted (λ a r f h. search rules)))
