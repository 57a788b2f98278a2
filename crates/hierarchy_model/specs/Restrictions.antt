-- Parts of which a part of the grid alone is looked at.
use Rattle.std.specs.Prelude.{◌≡◌, ◌≢◌, ◌⊎◌, ◌↔◌, ℕ, List, length, slice_get, Some}
use Rattle.tech_model.specs.GeoCore.declared.squares.Square.{Square}
use Rattle.tech_model.specs.declared.raw.RawTech.{RawTech}
use Rattle.tech_model.specs.WellFormed.{IsWellFormed}
use Rattle.offences.specs.LayoutModel.Places.{Place, AreNeighbours}
use Rattle.offences.specs.Offences.{SetLayout, HaveTypes, Offends}

-- Something of the part at this position stands at the place.
pub record PartStands (parts : List SetLayout) (position : ℕ) (place : Place) : Type 0 where
  pub part : SetLayout
  pub there : slice_get parts position ≡ Some part
  pub material : part place ≢ 0

-- The others are the same parts where these squares are, and nothing elsewhere. It is decided which squares these are.
pub record IsRestriction (Within : Square → Type 0) (parts others : List SetLayout) : Type 0 where
  pub count : length others ≡ length parts
  pub inside : (position : ℕ) (part other : SetLayout) → slice_get parts position ≡ Some part → slice_get others position ≡ Some other
      → (place : Place) → Within place.square → other place ≡ part place
  pub outside : (position : ℕ) (other : SetLayout) → slice_get others position ≡ Some other → (place : Place)
      → (Within place.square → ⊥) → other place ≡ 0
  pub decided : (square : Square) → Within square ⊎ (Within square → ⊥)

-- These squares have each place at which two parts stand, and each place of a part beside one of another.
pub record HoldsMeetings (Within : Square → Type 0) (parts : List SetLayout) : Type 0 where
  -- two parts stand at one place
  pub here : (j k : ℕ) (place : Place) → j ≢ k → PartStands parts j place → PartStands parts k place → Within place.square
  -- a part stands at a place, and another beside it
  pub beside : (j k : ℕ) (place beside : Place) → j ≢ k → PartStands parts j place → PartStands parts k beside → AreNeighbours place beside
      → Within place.square

-- The squares at which parts meet are enough to find all places that offend: what is elsewhere can be left out.
abbrev pub MeetingsDecide : RawTech → Type 1
MeetingsDecide raw =
    (Within : Square → Type 0) (parts others : List SetLayout) → IsWellFormed raw → HaveTypes raw parts → HoldsMeetings Within parts
    → IsRestriction Within parts others → (place : Place) → Offends raw parts place ↔ Offends raw others place
