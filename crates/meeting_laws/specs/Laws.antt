-- Laws of parts that meet in few squares, as statements.
use Rattle.std.specs.Prelude.{◌≡◌, ◌⊎◌, ℕ, pos, Bool, false, List, All, Some, slice_get}
use Rattle.tech_model.specs.GeoCore.declared.squares.Square.{Square}
use Rattle.tech_model.specs.declared.raw.RawTech.{RawTech}
use Rattle.tech_model.specs.Rules.{KeepsRules}
use Rattle.tech_model.specs.Types.{connects}
use Rattle.hierarchy_model.specs.LayoutModel.Links.{AreLinked, AreOneNode}
use Rattle.hierarchy_model.specs.LayoutModel.Places.{Place}
use Rattle.hierarchy_model.specs.LayoutModel.Technologies.{Class}
use Rattle.hierarchy_model.specs.Offences.Offences.{SetLayout, Offends}
use Rattle.hierarchy_model.specs.Restrictions.{IsRestriction}
use Rattle.tree_records.specs.PlaceWeights.{PlaceWeight, area_weight, perimeter_weight, capacitance_weight}
use Rattle.meeting_laws.specs.PartLayouts.{part_layout, parts_layout, Passes, HoldsAllMeetings, IsPartLink, excess}

-- A link of the flat layout is a link of one part with the same two types, or both its squares are among those at which parts meet.
abbrev pub LinksAreOfPartsOrWithin : RawTech → Type 0
LinksAreOfPartsOrWithin raw =
    (within : Square → Bool) (parts : List SetLayout) → HoldsAllMeetings (Passes within) parts
    → (a b : Place) → AreLinked (connects raw) (parts_layout raw parts) a b
    → IsPartLink raw parts a b ⊎ (Passes within a.square × Passes within b.square)

-- What each place counts in the flat layout beyond the parts is what it counts beyond the restricted parts, and nothing but in these squares.
pub record IsCountedWithin (raw : RawTech) (quantity : PlaceWeight) (Within : Square → Type 0) (parts others : List SetLayout) : Type 0 where
  pub same : (place : Place) → excess raw quantity parts place ≡ excess raw quantity others place
  pub elsewhere : (place : Place) → (Within place.square → ⊥) → excess raw quantity parts place ≡ pos 0

-- The area, perimeter and capacitance that the flat layout has beyond its parts are counted in the squares at which parts meet, of the parts
-- restricted to them. Space is in no class.
abbrev pub MeetingsAreCounted : RawTech → Type 0
MeetingsAreCounted raw =
    (within : Square → Bool) (parts others : List SetLayout) → HoldsAllMeetings (Passes within) parts
    → IsRestriction (Passes within) parts others
    → ((class : Class) → class.contains 0 ≡ false
    → IsCountedWithin raw (area_weight class) (Passes within) parts others × IsCountedWithin raw (perimeter_weight class) (Passes within) parts others)
    × ((classes : List Class) → All (λ class. class.contains 0 ≡ false) classes
    → IsCountedWithin raw (capacitance_weight classes) (Passes within) parts others)

-- The flat layout of restricted parts is the flat layout where the squares are, and space elsewhere.
abbrev pub RestrictedLayoutIsTheSameWithin : RawTech → Type 0
RestrictedLayoutIsTheSameWithin raw =
    (within : Square → Bool) (parts others : List SetLayout) → IsRestriction (Passes within) parts others → (place : Place)
    → (Passes within place.square → parts_layout raw others place ≡ parts_layout raw parts place)
    × ((Passes within place.square → ⊥) → parts_layout raw others place ≡ 0)

-- A link of a restricted part is one of the part, and where no place offends also one of the restricted flat layout.
abbrev pub RestrictedLinksAreLinks : RawTech → Type 0
RestrictedLinksAreLinks raw =
    KeepsRules raw → (within : Square → Bool) (parts others : List SetLayout) → IsRestriction (Passes within) parts others
    → ((place : Place) → Offends raw parts place → ⊥)
    → (position : ℕ) (part other : SetLayout) → slice_get parts position ≡ Some part → slice_get others position ≡ Some other
    → (a b : Place) → AreLinked (connects raw) (part_layout raw other) a b
    → AreLinked (connects raw) (part_layout raw part) a b × AreLinked (connects raw) (parts_layout raw others) a b

-- What links of a restricted part join, those of the part do, and where no place offends also those of the restricted flat layout.
abbrev pub RestrictedNodesAreInNodes : RawTech → Type 0
RestrictedNodesAreInNodes raw =
    KeepsRules raw → (within : Square → Bool) (parts others : List SetLayout) → IsRestriction (Passes within) parts others
    → ((place : Place) → Offends raw parts place → ⊥)
    → (position : ℕ) (part other : SetLayout) → slice_get parts position ≡ Some part → slice_get others position ≡ Some other
    → (a b : Place) → AreOneNode (connects raw) (part_layout raw other) a b
    → AreOneNode (connects raw) (part_layout raw part) a b × AreOneNode (connects raw) (parts_layout raw others) a b
