-- Numbered marks are no more than the numbers that have them.
use Rattle.tree_merges.proofs.Common.{◌≤◌, ◌<◌, ℕ, zero, suc, List, length, arith}
use Rattle.finite_sets.specs.Least.{IsLeast}
use Rattle.partition.specs.Marks.{HasMark, IsNumbered}

module _ (marks : List ℕ) (count : ℕ) (numbered : IsNumbered marks count) where
  -- the least number with a mark is no less than the mark
  least_at : (mark : ℕ) → mark < count → (least : ℕ) → IsLeast ◌≤◌ (HasMark marks mark) least → mark ≤ least
  least_at zero below least is = omega arith
  least_at (suc mark) below least is =
      let before = numbered.used mark (omega (arith, below)) in
      let so_far : mark ≤ before.0 = least_at mark (omega (arith, below)) before.0 before.1 in
      let rises : before.0 < least = numbered.in_order mark (suc mark) before.0 least (omega arith) before.1 is in
      omega (arith, so_far, rises)

  last_at : (last : ℕ) → last < count → last < length marks
  last_at last below =
      let used = numbered.used last below in
      let most : last ≤ used.0 = least_at last below used.0 used.1 in
      let within : used.0 < length marks = used.1.0.0 in
      omega (arith, most, within)

-- marks are no more than the numbers that have them
pub marks_are_few : (marks : List ℕ) (count : ℕ) → IsNumbered marks count → count ≤ length marks
marks_are_few marks zero numbered = omega arith
marks_are_few marks (suc last) numbered = let within = last_at marks (suc last) numbered last (omega arith) in omega (arith, within)
