-- What pieces and their contacts count in a class, in the flat layout less what they count in the parts.
use Rattle.std.specs.Prelude.{◌≡◌, ◌⊎◌, ◌<◌, ◌==◌, ◌&&◌, ℕ, ℤ, pos, ◌+ℤ◌, ◌-ℤ◌, ◌≤ℤ◌, ◌^◌, neg_ℤ, Bool, if◌then◌else◌, List, length, map, unwrap_or}
use Rattle.std.specs.Prelude.{slice_index, slice_index_or}
use Rattle.std.specs.List.{range_with_len}
use Rattle.finite_sets.specs.Lists.{In}
use Rattle.finite_sets.specs.Total.{sum_on}
use Rattle.key_sums.specs.declared.Amount.{Amount}
use Rattle.key_sums.specs.Amounts.{sum_of}
use Rattle.rect_contacts.specs.declared.contacts.Contact.{Contact}
use Rattle.rect_contacts.specs.Squares.{area_of, perimeter_of}
use Rattle.tech_model.specs.declared.raw.ClassRec.{ClassRec}
use Rattle.tech_model.specs.Types.{type_number}
use Rattle.offences.specs.LayoutModel.Technologies.{class_of}
use Rattle.offences.specs.declared.plane_stacks.PlaneStack.{PlaneStack}
use Rattle.offences.specs.declared.stacks.TypedStack.{TypedStack}
use Rattle.offences.specs.TypedStacks.{kind_in, no_typed_stack}
use Rattle.meeting_sums.specs.declared.columns.Column.{Column}

-- the flat type of a piece: space where it is undefined
abbrev pub flat_kind : TypedStack → ℕ
flat_kind stack = (unwrap_or stack.flat (type_number 0)).0

-- a value where the flat type is of the class, less the value for each part whose type is
abbrev pub beyond : (ℕ → Bool) → TypedStack → ℤ → ℤ
beyond contains stack value =
    (if contains (flat_kind stack) then value else pos 0) -ℤ sum_on (λ entry. if contains entry.kind.0 then value else pos 0) stack.kinds

-- the same for both of two pieces: a value where both flat types are of the class, less the value for each part both of whose types are
abbrev pub beyond_both : (ℕ → Bool) → TypedStack → TypedStack → ℤ → ℤ
beyond_both contains first second value =
    (if contains (flat_kind first) && contains (flat_kind second) then value else pos 0)
    -ℤ sum_on (λ entry. if contains entry.kind.0 && contains (kind_in second.kinds entry.part) then value else pos 0) first.kinds

-- a value where the group is this one
abbrev pub for_group : ℕ → ℕ → ℤ → ℤ
for_group key group value = if key == group then value else pos 0

-- a value for each of two groups
abbrev pub for_both : ℕ → ℕ → ℕ → ℤ → ℤ
for_both first second group value = for_group first group value +ℤ for_group second group value

-- a piece without a square
abbrev pub no_piece : PlaneStack
no_piece = record { plane = 0; stack = no_typed_stack }

-- the piece at a place of the list, and one without a square past its end
abbrev pub stack_at : List PlaneStack → ℕ → TypedStack
stack_at stacks index = (slice_index_or stacks index no_piece).stack

-- the area that the piece at this index counts for the group
abbrev pub area_counted : (ℕ → Bool) → List PlaneStack → List ℕ → ℕ → ℕ → ℤ
area_counted contains stacks groups group index =
    for_group (slice_index groups index) group (beyond contains (stack_at stacks index) (area_of (stack_at stacks index).area))

-- the perimeter that it counts by itself
abbrev pub perimeter_counted : (ℕ → Bool) → List PlaneStack → List ℕ → ℕ → ℕ → ℤ
perimeter_counted contains stacks groups group index =
    for_group (slice_index groups index) group (beyond contains (stack_at stacks index) (perimeter_of (stack_at stacks index).area))

-- what a contact takes off the perimeter that the pieces of the group count by themselves
abbrev pub contact_counted : (ℕ → Bool) → List PlaneStack → List ℕ → ℕ → Contact → ℤ
contact_counted contains stacks groups group contact =
    for_both (slice_index groups contact.first) (slice_index groups contact.second) group
    (beyond_both contains (stack_at stacks contact.first) (stack_at stacks contact.second) contact.length)

-- the area that the pieces of a group count
abbrev pub area_beyond : (ℕ → Bool) → List PlaneStack → List ℕ → ℕ → ℤ
area_beyond contains stacks groups group = sum_on (area_counted contains stacks groups group) (range_with_len 0 (length stacks))

-- the perimeter that they count by themselves
abbrev pub alone_beyond : (ℕ → Bool) → List PlaneStack → List ℕ → ℕ → ℤ
alone_beyond contains stacks groups group = sum_on (perimeter_counted contains stacks groups group) (range_with_len 0 (length stacks))

-- what contacts take off
abbrev pub shared_beyond : (ℕ → Bool) → List PlaneStack → List Contact → List ℕ → ℕ → ℤ
shared_beyond contains stacks contacts groups group = sum_on (contact_counted contains stacks groups group) contacts

-- the perimeter that the pieces of a group count
abbrev pub perimeter_beyond : (ℕ → Bool) → List PlaneStack → List Contact → List ℕ → ℕ → ℤ
perimeter_beyond contains stacks contacts groups group =
    alone_beyond contains stacks groups group -ℤ shared_beyond contains stacks contacts groups group

-- Amounts of these keys are added, whose sums are these.
pub record AddAmounts (Key : ℕ → Type 0) (value : ℕ → ℤ) (old new : List Amount) : Type 0 where
  pub keys : (amount : Amount) → In amount new → In amount old ⊎ Key amount.key
  pub sums : (key : ℕ) → sum_of key new ≡ sum_of key old +ℤ value key

-- The column has for each group the area and the perimeter that its pieces count.
pub record IsColumn (contains : ℕ → Bool) (stacks : List PlaneStack) (contacts : List Contact) (groups : List ℕ) (count : ℕ) (column : Column)
    : Type 0 where
  pub areas_long : length column.areas.items ≡ count
  pub perimeters_long : length column.perimeters.items ≡ count
  pub area : (group : ℕ) → group < count → slice_index_or column.areas.items group (pos 0) ≡ area_beyond contains stacks groups group
  pub perimeter : (group : ℕ) → group < count
      → slice_index_or column.perimeters.items group (pos 0) ≡ perimeter_beyond contains stacks contacts groups group

-- the area and the perimeter of a group in each class
abbrev pub pairs_at : ℕ → List Column → List (ℤ × ℤ)
pairs_at group columns = map (λ column. (slice_index_or column.areas.items group (pos 0), slice_index_or column.perimeters.items group (pos 0))) columns

-- There is a column for each class.
pub record AreColumns (classes : List ClassRec) (stacks : List PlaneStack) (contacts : List Contact) (groups : List ℕ) (count : ℕ)
    (columns : List Column) : Type 0 where
  pub so_many : length columns ≡ length classes
  pub each : (k : ℕ) (class : ClassRec) (column : Column) → k < length classes
      → IsColumn (class_of (slice_index_or classes k class)).contains stacks contacts groups count (slice_index_or columns k column)

-- An area and a perimeter that all paint of a million parts can have beyond them.
pub record IsSmallSum (measure : ℤ × ℤ) : Type 0 where
  pub least_area : neg_ℤ (pos (2 ^ 81)) ≤ℤ measure.0
  pub most_area : measure.0 ≤ℤ pos (2 ^ 81)
  pub least_edges : neg_ℤ (pos (2 ^ 84)) ≤ℤ measure.1
  pub most_edges : measure.1 ≤ℤ pos (2 ^ 84)
