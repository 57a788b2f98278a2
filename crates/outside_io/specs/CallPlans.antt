-- Which calls of an object in memory fail: those whose numbers are listed. The first call has number 1.
use Rattle.std.specs.Prelude.{ℕ, ◌+◌, min, List, Option, Some, None, Contains}
use Rattle.outside_io.specs.declared.limits.TheConstants.{LAST_COUNT}

-- How many calls were made, and the numbers of those that fail.
pub record CallPlan : Type 0 where
  pub made : ℕ
  pub failing : List ℕ

-- No call was made yet.
abbrev pub plan_of : List ℕ → CallPlan
plan_of failing = record { made = 0; failing = failing }

-- One more call was made. The list stays, and the count stands still at its last value.
abbrev pub after_call : CallPlan → CallPlan
after_call plan = record { made = min (plan.made + 1) LAST_COUNT; failing = plan.failing }

-- The same of what an object tells. What is not told stays so.
abbrev pub told_after_call : Option CallPlan → Option CallPlan
told_after_call None = None
told_after_call (Some plan) = Some (after_call plan)

-- The number of the last call is listed.
abbrev pub IsListed : CallPlan → Type 0
IsListed plan = Contains plan.failing plan.made
