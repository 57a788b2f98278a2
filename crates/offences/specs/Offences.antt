-- The places of a layout at which its parts spoil each other: what stands there together is no type, hides what a part has, or makes,
-- breaks or changes a transistor.
use Rattle.std.specs.Prelude.{◌≡◌, ◌≢◌, ◌⊎◌, ◌==◌, ◌+◌, ℕ, Bool, IsTrue, false, if◌then◌else◌, bit_or, List, [], ◌∷◌, Option, Some, None, slice_get}
use Rattle.geo_core.specs.declared.squares.Square.{Square}
use Rattle.tech_model.specs.declared.raw.RawTech.{RawTech}
use Rattle.tech_model.specs.Types.{joined, is_within}
use Rattle.tech_model.specs.ChannelRoles.{is_channel}
use Rattle.layout_model.specs.Places.{Place, AreNeighbours}
use Rattle.offences.specs.Roles.{role_of}

-- The set of tile parts that stands at each place, empty for space.
abbrev pub SetLayout : Type 0
SetLayout = Place → ℕ

-- the type whose set stands at the place: space for the empty set, and undefined where no type of the plane has the set
abbrev pub joined_at : RawTech → SetLayout → Place → Option ℕ
joined_at raw sets place = joined raw place.plane (sets place)

-- what all parts have together
abbrev pub union_of : List SetLayout → SetLayout
union_of [] place = 0
union_of (part ∷ parts) place = bit_or (part place) (union_of parts place)

-- the flat type at a place: that of what all parts have there
abbrev pub flat_type : RawTech → List SetLayout → Place → Option ℕ
flat_type raw parts place = joined_at raw (union_of parts) place

-- the type is defined and is this one
abbrev pub is_exactly : ℕ → Option ℕ → Bool
is_exactly kind None = false
is_exactly kind (Some other) = other == kind

-- how many of the parts have the type at the place
abbrev pub parts_with : RawTech → List SetLayout → Place → ℕ → ℕ
parts_with raw [] place kind = 0
parts_with raw (part ∷ parts) place kind = (if is_exactly kind (joined_at raw part place) then 1 else 0) + parts_with raw parts place kind

-- The part at this position has the type at the place.
pub record HasKind (raw : RawTech) (parts : List SetLayout) (position : ℕ) (place : Place) (kind : ℕ) : Type 0 where
  pub part : SetLayout
  pub there : slice_get parts position ≡ Some part
  pub is : joined_at raw part place ≡ Some kind

-- What stands there together is no type.
abbrev pub HasNoType : RawTech → List SetLayout → Place → Type 0
HasNoType raw parts place = flat_type raw parts place ≡ None

-- Some part has a type other than space that is not within the flat type. Nothing is within what is undefined.
pub record HidesPart (raw : RawTech) (parts : List SetLayout) (place : Place) : Type 0 where
  pub position : ℕ
  pub kind : ℕ
  pub has : HasKind raw parts position place kind
  pub material : kind ≢ 0
  pub outside : (flat : ℕ) → flat_type raw parts place ≡ Some flat → IsTrue (is_within raw kind flat) → ⊥

-- The flat type is a channel's, and not exactly one part has it.
pub record SharesChannel (raw : RawTech) (parts : List SetLayout) (place : Place) : Type 0 where
  pub fet : ℕ
  pub flat : flat_type raw parts place ≡ Some fet
  pub channel : IsTrue (is_channel raw fet)
  pub count : parts_with raw parts place fet ≢ 1

-- Some part has a channel's type there, and the flat type is another or undefined.
pub record LosesChannel (raw : RawTech) (parts : List SetLayout) (place : Place) : Type 0 where
  pub position : ℕ
  pub fet : ℕ
  pub has : HasKind raw parts position place fet
  pub channel : IsTrue (is_channel raw fet)
  pub flat : flat_type raw parts place ≢ Some fet

-- The flat type is a channel's and some part has it, and at an edge neighbour the role of the flat type is not that of the part's type.
pub record ChangesRole (raw : RawTech) (parts : List SetLayout) (place : Place) : Type 0 where
  pub fet : ℕ
  pub flat : flat_type raw parts place ≡ Some fet
  pub channel : IsTrue (is_channel raw fet)
  pub position : ℕ
  pub has : HasKind raw parts position place fet
  pub beside : Place
  pub neighbour : AreNeighbours place beside
  pub differs : role_of raw fet (flat_type raw parts beside) ≢ role_of raw fet (joined_at raw has.part beside)

-- The place offends.
abbrev pub Offends : RawTech → List SetLayout → Place → Type 0
Offends raw parts place =
    HasNoType raw parts place
    ⊎ (HidesPart raw parts place
    ⊎ (SharesChannel raw parts place
    ⊎ (LosesChannel raw parts place
    ⊎ ChangesRole raw parts place)))

-- the squares of a plane that offend
abbrev pub OffendsOn : RawTech → List SetLayout → ℕ → Square → Type 0
OffendsOn raw parts plane square = Offends raw parts (record { plane = plane; square = square })

-- Each part has a type at each place.
abbrev pub HaveTypes : RawTech → List SetLayout → Type 0
HaveTypes raw parts = (position : ℕ) (part : SetLayout) → slice_get parts position ≡ Some part → (place : Place) → joined_at raw part place ≢ None
