-- The pieces of a plane that offend.
use Rattle.std.specs.Prelude.{◌≡◌, ◌==◌, ◌&&◌, ◌||◌, not, ℕ, ℤ, pos, negsuc, ◌+ℤ◌, Bool, true, false, if◌then◌else◌, List, [], ◌∷◌, ◌++◌, map, filter}
use Rattle.std.specs.Prelude.{Option, Some, None, count_by}
use Rattle.std.specs.List.{list_any, flat_map}
use Rattle.std.specs.Option.{option_map, is_some}
use Rattle.geo_core.specs.declared.squares.Square.{Square}
use Rattle.geo_core.specs.declared.squares.Rect.{Rect}
use Rattle.geo_core.specs.Areas.{common_rect}
use Rattle.geo_core.specs.Strips.{IsInUnion}
use Rattle.geo_core.specs.FiniteSets.Lists.{Lists}
use Rattle.rect_overlays.specs.RectContacts.Contacts.{IsSharedEdge}
use Rattle.rect_overlays.specs.RectContacts.declared.contacts.Contact.{Contact}
use Rattle.tech_model.specs.declared.raw.TypeId.{TypeId}
use Rattle.tech_model.specs.declared.raw.RawTech.{RawTech}
use Rattle.tech_model.specs.Types.{is_within}
use Rattle.tech_model.specs.ChannelRoles.{is_channel}
use Rattle.offences.specs.declared.stacks.PartKind.{PartKind}
use Rattle.offences.specs.declared.stacks.TypedStack.{TypedStack}
use Rattle.offences.specs.Changes.{number_of, same_role}
use Rattle.offences.specs.Roles.{role_of}
use Rattle.offences.specs.TypedStacks.{has_kind, kind_in, typed_stack_at, typed_stack_areas}

-- the flat type hides the part's
abbrev pub is_hidden : RawTech → ℕ → PartKind → Bool
is_hidden raw flat entry = not (is_within raw entry.kind.0 flat)

-- the flat type is a channel's, and not exactly one part has it
abbrev pub is_shared : RawTech → ℕ → List PartKind → Bool
is_shared raw flat kinds = is_channel raw flat && not (count_by (has_kind flat) kinds == 1)

-- the part has a channel there, and the flat type is another
abbrev pub is_lost : RawTech → ℕ → PartKind → Bool
is_lost raw flat entry = is_channel raw entry.kind.0 && not (entry.kind.0 == flat)

-- what stands in a piece makes each of its squares offend
abbrev pub spoils : RawTech → Option TypeId → List PartKind → Bool
spoils raw None kinds = true
spoils raw (Some flat) kinds = list_any (is_hidden raw flat.0) kinds || is_shared raw flat.0 kinds || list_any (is_lost raw flat.0) kinds

-- each square of the piece offends, whatever stands beside it
abbrev pub is_spoiled : RawTech → TypedStack → Bool
is_spoiled raw typed_stack = spoils raw typed_stack.flat typed_stack.kinds

-- beside a channel of this part the flat type has another role than what the part has
abbrev pub changes_role : RawTech → PartKind → TypedStack → Bool
changes_role raw owner beside =
    not (same_role (role_of raw owner.kind.0 (option_map number_of beside.flat)) (role_of raw owner.kind.0 (Some (kind_in beside.kinds owner.part))))

-- the rectangle, moved
abbrev pub moved_rect : Rect → ℤ → ℤ → Rect
moved_rect area dx dy = record { xlo = area.xlo +ℤ dx; ylo = area.ylo +ℤ dy; xhi = area.xhi +ℤ dx; yhi = area.yhi +ℤ dy }

-- the squares of the first rectangle that share an edge with a square of the second
abbrev pub sides_of : Rect → Rect → List Rect
sides_of here beside =
    common_rect here (moved_rect beside (pos 1) (pos 0)) ∷ common_rect here (moved_rect beside (negsuc 0) (pos 0))
    ∷ common_rect here (moved_rect beside (pos 0) (pos 1)) ∷ common_rect here (moved_rect beside (pos 0) (negsuc 0)) ∷ []

-- the squares of a channel beside which a role changes
abbrev pub changed_by : RawTech → Option PartKind → TypedStack → TypedStack → List Rect
changed_by raw None here beside = []
changed_by raw (Some owner) here beside = if changes_role raw owner beside then sides_of here.area beside.area else []

-- the squares of the first piece that offend for what stands in the second
abbrev pub changed : RawTech → TypedStack → TypedStack → List Rect
changed raw here beside = changed_by raw here.owner here beside

-- the squares that offend for what stands on the other side of a contact
abbrev pub changed_across : RawTech → List TypedStack → Contact → List Rect
changed_across raw typed_stacks contact =
    changed raw (typed_stack_at typed_stacks contact.first) (typed_stack_at typed_stacks contact.second)
    ++ changed raw (typed_stack_at typed_stacks contact.second) (typed_stack_at typed_stacks contact.first)

-- some part has a channel there that is the flat type
abbrev pub has_owner : TypedStack → Bool
has_owner typed_stack = is_some typed_stack.owner

-- the areas of the spoiled pieces
abbrev pub spoiled_areas : RawTech → List TypedStack → List Rect
spoiled_areas raw typed_stacks = map (λ typed_stack. typed_stack.area) (filter (is_spoiled raw) typed_stacks)

-- what offends for what stands beside it
abbrev pub changed_pieces : RawTech → List TypedStack → List Contact → List Rect
changed_pieces raw typed_stacks contacts = flat_map (changed_across raw typed_stacks) contacts

-- The rectangles cover exactly the squares with this fact.
pub record CoverExactly (S : Square → Type 0) (pieces : List Rect) : Type 0 where
  pub sound : (square : Square) → IsInUnion pieces square → S square
  pub whole : (square : Square) → S square → IsInUnion pieces square

-- The pieces are those of all contacts, or no piece is of a channel and there are none.
pub data AreFoundChanges (raw : RawTech) (typed_stacks : List TypedStack) (pieces : List Rect) : Type 0 where
  no_channel : list_any has_owner typed_stacks ≡ false → pieces ≡ [] → AreFoundChanges raw typed_stacks pieces
  of_contacts : (contacts : List Contact) → Lists (IsSharedEdge (typed_stack_areas typed_stacks)) contacts → pieces ≡ changed_pieces raw typed_stacks contacts
      → AreFoundChanges raw typed_stacks pieces
