-- The sweep over rows, from one row with edges to the next.
use Rattle.std.specs.Prelude.{◌≡◌, ◌⊎◌, ◌↔◌, ℤ, pos, ◌≤ℤ◌, ◌<ℤ◌, true, neg_ℤ, ◌^◌, ◌-ℤ◌}
use Rattle.geo_strips.specs.RowRuns.{IsInRow, AreRuns, Changes}
use Rattle.interact.specs.declared.sweep.Sweep.{Sweep}
use Rattle.interact.specs.steps.Counts.{count_of, is_shared, row_of, IsCut, IsTold}

-- Columns are looked at from this one on.
abbrev pub first_column : ℤ
first_column = neg_ℤ (pos (2 ^ 63))

-- Columns are looked at before this one.
abbrev pub last_column : ℤ
last_column = pos (2 ^ 63) -ℤ pos 1

-- the runs are those of the columns that were shared when the counts were settled last
pub record IsBetweenRows (sweep : Sweep) : Type 0 where
  pub told : IsTold sweep.counts
  pub apart : AreRuns (row_of sweep.shared)
  pub before : (x : ℤ) → first_column ≤ℤ x → x <ℤ last_column → IsInRow (row_of sweep.shared) x ↔ (is_shared sweep.counts x ≡ true)

-- at the sweep's row the columns that two or more cover are in runs now, and no others
pub record SettlesRow (old new : Sweep) : Type 0 where
  pub row : new.row ≡ old.row
  pub counts : (x : ℤ) → count_of new.counts x ≡ count_of old.counts x
  pub cuts : (v : ℤ) → IsCut old.counts v → IsCut new.counts v
  pub between : IsBetweenRows new
  pub changes : Changes old.row (row_of old.shared) (row_of new.shared) old.shared.ended.items new.shared.ended.items
  pub inside : (x : ℤ) → first_column ≤ℤ x → x <ℤ last_column → IsInRow (row_of new.shared) x ↔ (pos 2 ≤ℤ count_of old.counts x)
  pub outside : (x : ℤ) → (x <ℤ first_column) ⊎ (last_column ≤ℤ x) → IsInRow (row_of new.shared) x ↔ IsInRow (row_of old.shared) x
