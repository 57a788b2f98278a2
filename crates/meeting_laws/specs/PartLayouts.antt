-- Parts of a layout and their flat layout, as layouts of tile types.
use Rattle.std.specs.Prelude.{◌≡◌, ◌≢◌, ◌-ℤ◌, ℕ, ℤ, Bool, IsTrue, List, Some, slice_get}
use Rattle.tech_model.specs.FiniteSets.Total.{sum_on}
use Rattle.tech_model.specs.GeoCore.declared.squares.Square.{Square}
use Rattle.tech_model.specs.declared.raw.RawTech.{RawTech}
use Rattle.tech_model.specs.Types.{connects}
use Rattle.hierarchy_model.specs.LayoutModel.LayerTypes.{or_space}
use Rattle.hierarchy_model.specs.LayoutModel.Layouts.{Layout}
use Rattle.hierarchy_model.specs.LayoutModel.Links.{AreLinked}
use Rattle.hierarchy_model.specs.LayoutModel.Places.{Place, AreStacked}
use Rattle.hierarchy_model.specs.Offences.Offences.{SetLayout, joined_at, flat_type}
use Rattle.hierarchy_model.specs.Restrictions.{PartStands, HoldsMeetings}
use Rattle.tree_records.specs.PlaceWeights.{PlaceWeight}

-- the types of a part, where undefined ones are space
abbrev pub part_layout : RawTech → SetLayout → Layout
part_layout raw part place = or_space (joined_at raw part place)

-- the types of all parts together
abbrev pub parts_layout : RawTech → List SetLayout → Layout
parts_layout raw parts place = or_space (flat_type raw parts place)

-- The square passes the test.
abbrev pub Passes : (Square → Bool) → Square → Type 0
Passes test square = IsTrue (test square)

-- These squares have each place at which two parts stand, and each place of a part beside one of another, or above or below it.
pub record HoldsAllMeetings (Within : Square → Type 0) (parts : List SetLayout) : Type 0 where
  -- on one plane
  pub on_plane : HoldsMeetings Within parts
  -- two parts stand at one square of two planes
  pub stacked : (j k : ℕ) (place other : Place) → j ≢ k → PartStands parts j place → PartStands parts k other → AreStacked place other
      → Within place.square

-- The part at this position stands at both places with the types of the flat layout, and links them.
pub record IsPartLink (raw : RawTech) (parts : List SetLayout) (a b : Place) : Type 0 where
  pub position : ℕ
  pub part : SetLayout
  pub there : slice_get parts position ≡ Some part
  pub same_here : part_layout raw part a ≡ parts_layout raw parts a
  pub same_there : part_layout raw part b ≡ parts_layout raw parts b
  pub linked : AreLinked (connects raw) (part_layout raw part) a b

-- what a place counts in the flat layout of the parts less what it counts in each of them
abbrev pub excess : RawTech → PlaceWeight → List SetLayout → Place → ℤ
excess raw quantity parts place =
    quantity (parts_layout raw parts) place -ℤ sum_on (λ part. quantity (part_layout raw part) place) parts
