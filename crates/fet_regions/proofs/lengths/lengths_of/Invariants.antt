use Rattle.fet_regions.proofs.Common.{◌≡◌, ℕ, take, get, sum_on, Bounded, key_cmp, part_in, summed}
use Rattle.fet_regions.proofs.lengths.lengths_of.Given as goal

abbrev pub invariant-loop-part : goal.invariant-loop-part
invariant-loop-part l = record {
  each : (key : ℕ × ℕ) → get key_cmp l.lengths key ≡ summed (take l.part-index l.parts) key;
  bounded : (key : ℕ × ℕ) → Bounded l.part-index (sum_on (part_in key) (take l.part-index l.parts));
}
