-- Pieces of a plane on whose squares each part has one type.
use Rattle.std.specs.Prelude.{◌≡◌, ◌≢◌, ◌<◌, ◌==◌, ℕ, Bool, if◌then◌else◌, List, [], ◌∷◌, length, map, find, slice_get}
use Rattle.std.specs.Prelude.{slice_index_or}
use Rattle.std.specs.Prelude.{Option, Some, None, unwrap_or, AllPairs}
use Rattle.std.specs.Option.{option_map}
use Rattle.geo_core.specs.FiniteSets.Lists.{In}
use Rattle.geo_core.specs.declared.squares.Square.{Square}
use Rattle.geo_core.specs.declared.squares.Rect.{Rect}
use Rattle.geo_core.specs.Areas.{IsNear, AreDisjoint}
use Rattle.geo_core.specs.Covering.{Covers, IsProper}
use Rattle.rect_overlays.specs.RectContacts.Rects.{no_rect}
use Rattle.rect_overlays.specs.declared.stacks.Stack.{Stack}
use Rattle.tech_model.specs.declared.raw.TypeId.{TypeId}
use Rattle.tech_model.specs.declared.raw.RawTech.{RawTech}
use Rattle.tech_model.specs.Types.{type_number, joined}
use Rattle.tech_model.specs.ChannelRoles.{is_channel}
use Rattle.layout_model.specs.Places.{Place}
use Rattle.offences.specs.declared.set_tiles.SetTile.{SetTile}
use Rattle.offences.specs.declared.part_sets.PartSum.{PartSum}
use Rattle.offences.specs.declared.stacks.PartKind.{PartKind}
use Rattle.offences.specs.declared.stacks.TypedStack.{TypedStack}
use Rattle.offences.specs.Changes.{number_of}
use Rattle.offences.specs.Offences.{SetLayout, joined_at, flat_type, HaveTypes}
use Rattle.offences.specs.PartSets.{HaveSetsOf, all_sets, tile_at}
use Rattle.offences.specs.SetTiles.{AreTilesOfParts, tile_parts}

-- the type of a part that has this set
abbrev pub kind_of : RawTech → ℕ → PartSum → PartKind
kind_of raw plane sum = record { part = sum.part; kind = unwrap_or (option_map type_number (joined raw plane sum.set.0)) (type_number 0) }

-- the part has the type
abbrev pub has_kind : ℕ → PartKind → Bool
has_kind kind entry = entry.kind.0 == kind

-- the first part that has the flat type, where that is a channel's
abbrev pub owner_of : RawTech → Option TypeId → List PartKind → Option PartKind
owner_of raw None kinds = None
owner_of raw (Some flat) kinds = if is_channel raw flat.0 then find (has_kind flat.0) kinds else None

-- The piece is what the members of a stack make.
pub record StandsFor (raw : RawTech) (plane : ℕ) (tiles : List SetTile) (stack : Stack) (typed_stack : TypedStack) : Type 0 where
  pub sums : List PartSum
  pub are : HaveSetsOf tiles stack.members.items sums
  pub area : typed_stack.area ≡ stack.area
  pub flat : typed_stack.flat ≡ option_map type_number (joined raw plane (all_sets sums))
  pub kinds : typed_stack.kinds ≡ map (kind_of raw plane) sums
  pub owner : typed_stack.owner ≡ owner_of raw typed_stack.flat typed_stack.kinds
  pub members : typed_stack.members ≡ stack.members.items

-- the areas of pieces
abbrev pub typed_stack_areas : List TypedStack → List Rect
typed_stack_areas typed_stacks = map (λ typed_stack. typed_stack.area) typed_stacks

-- The piece is what the members of one of the stacks make.
pub record IsOfStack (raw : RawTech) (plane : ℕ) (tiles : List SetTile) (stacks : List Stack) (typed_stack : TypedStack) : Type 0 where
  pub stack : Stack
  pub listed : In stack stacks
  pub stands : StandsFor raw plane tiles stack typed_stack

-- The pieces are those of the stacks, in their order.
pub record StandForAll (raw : RawTech) (plane : ℕ) (tiles : List SetTile) (stacks : List Stack) (typed_stacks : List TypedStack) : Type 0 where
  pub each : (typed_stack : TypedStack) → In typed_stack typed_stacks → IsOfStack raw plane tiles stacks typed_stack
  pub areas : typed_stack_areas typed_stacks ≡ map (λ stack. stack.area) stacks

-- the type of a part in a list of types: space where it is not listed
abbrev pub kind_in : List PartKind → ℕ → ℕ
kind_in [] part = 0
kind_in (entry ∷ kinds) part = if entry.part == part then entry.kind.0 else kind_in kinds part

-- Each part stands before the next.
abbrev pub AreByPart : List PartKind → Type 0
AreByPart kinds = AllPairs (λ a b. a.part < b.part) kinds

-- a square of a plane
abbrev pub on_plane : ℕ → Square → Place
on_plane plane square = record { plane = plane; square = square }

-- What is said of the piece holds at each of its squares.
pub record IsTypedStack (raw : RawTech) (parts : List SetLayout) (plane : ℕ) (typed_stack : TypedStack) : Type 0 where
  pub proper : IsProper typed_stack.area
  pub near : IsNear typed_stack.area
  pub ordered : AreByPart typed_stack.kinds
  pub within : (entry : PartKind) → In entry typed_stack.kinds → entry.part < length parts
  pub material : (entry : PartKind) → In entry typed_stack.kinds → entry.kind.0 ≢ 0
  pub flat : (square : Square) → Covers typed_stack.area square → flat_type raw parts (on_plane plane square) ≡ option_map number_of typed_stack.flat
  pub kinds : (square : Square) → Covers typed_stack.area square → (position : ℕ) (part : SetLayout) → slice_get parts position ≡ Some part
      → joined_at raw part (on_plane plane square) ≡ Some (kind_in typed_stack.kinds position)
  pub owner : typed_stack.owner ≡ owner_of raw typed_stack.flat typed_stack.kinds

-- The pieces lie apart, and no part has anything outside them.
pub record AreTypedStacks (raw : RawTech) (parts : List SetLayout) (plane : ℕ) (typed_stacks : List TypedStack) : Type 0 where
  pub each : (typed_stack : TypedStack) → In typed_stack typed_stacks → IsTypedStack raw parts plane typed_stack
  pub apart : AllPairs AreDisjoint (typed_stack_areas typed_stacks)
  pub outside : (square : Square) → ((typed_stack : TypedStack) → In typed_stack typed_stacks → Covers typed_stack.area square → ⊥)
      → (position : ℕ) (part : SetLayout) → slice_get parts position ≡ Some part → part (on_plane plane square) ≡ 0

-- The pieces are those of the parts that the tiles make, if each of these has types.
abbrev pub StandForTiles : RawTech → ℕ → List SetTile → List TypedStack → Type 0
StandForTiles raw plane tiles typed_stacks =
    (count : ℕ) → AreTilesOfParts count tiles → HaveTypes raw (tile_parts tiles plane count)
    → AreTypedStacks raw (tile_parts tiles plane count) plane typed_stacks

-- The members are the numbers of the tiles that cover the piece: each covers each of its squares, and each tile that covers a square of it
-- is one.
pub record HasMembers (tiles : List SetTile) (typed_stack : TypedStack) : Type 0 where
  pub rising : AllPairs ◌<◌ typed_stack.members
  pub some : typed_stack.members ≢ []
  pub within : (member : ℕ) → In member typed_stack.members → member < length tiles
  pub cover : (member : ℕ) → In member typed_stack.members → (square : Square) → Covers typed_stack.area square → Covers (tile_at tiles member).area square
  pub all : (member : ℕ) (square : Square) → member < length tiles → Covers typed_stack.area square → Covers (tile_at tiles member).area square
      → In member typed_stack.members

-- a piece without a square
abbrev pub no_typed_stack : TypedStack
no_typed_stack = record { area = no_rect; flat = None; kinds = []; owner = None; members = [] }

-- the piece at a place of a list, and one without a square past its end
abbrev pub typed_stack_at : List TypedStack → ℕ → TypedStack
typed_stack_at typed_stacks place = slice_index_or typed_stacks place no_typed_stack
