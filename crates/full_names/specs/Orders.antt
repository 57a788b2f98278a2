-- Numbers in an order, and where each stands.
use Rattle.std.specs.Prelude.{◌≡◌, ◌<◌, ℕ, List, length, slice_index}
use Rattle.ext_model.specs.FiniteSets.Lists.{In}

-- The number stands in the list where the other list says.
pub record StandsWhere (slots standings : List ℕ) (slot : ℕ) : Type 0 where
  pub within : slice_index standings slot < length slots
  pub is : slice_index slots (slice_index standings slot) ≡ slot

-- For each number of the list, the other list says where it stands.
pub record AreStandings (slots standings : List ℕ) : Type 0 where
  pub long : length standings ≡ length slots
  pub each : (slot : ℕ) → In slot slots → StandsWhere slots standings slot
