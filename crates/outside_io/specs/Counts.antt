-- Counts of faults and of other causes. A count rises by one, and at its last value it stands still.
use Rattle.std.specs.Prelude.{◌≡◌, ◌⊎◌, ℕ, ◌<◌}
use Rattle.outside_io.specs.declared.limits.TheConstants.{LAST_COUNT}

-- A count rose: it is greater than before, or it stands at its last value.
abbrev pub Rose : ℕ → ℕ → Type 0
Rose before now = (before < now) ⊎ (now ≡ LAST_COUNT)
