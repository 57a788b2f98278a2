-- Places of a tile with a fact, of which one is the least: it can't be that there is one and none is the least.
use Rattle.stack_nodes.proofs.Common.{◌≡◌, ◌<◌, ◌+◌, ◌*◌, ℕ, zero, suc, ℤ, ◌≤ℤ◌, pos, arith, inl, inr, refl, cases_Bool, ints, Place}
use Rattle.std.proofs.Common.{◌⊎◌, negsuc}
use Rattle.tech_model.specs.GeoCore.FiniteSets.Least.{IsLeast}
use Rattle.tech_model.specs.GeoCore.FiniteSets.Range.{nonnegative_part}
use Rattle.library_trees.specs.CellLibrary.LayoutModel.Places.{IsBefore, IsNoLater}
use Rattle.library_trees.specs.Names.declared.attaching.Attachment.{Attachment}
use Rattle.library_trees.specs.Names.steps.TakenLabels.{stands_earlier}
use Rattle.library_trees.proofs.TreeNames.Names.PlaceOrders.{stands_earlier-false, stands_earlier-true}
use Rattle.stack_nodes.proofs.TilePaint.{IsInTile}

-- the number of a place among those of a tile
abbrev number_of : Place → ℕ
number_of place = place.plane * 36 + nonnegative_part place.square.y * 6 + nonnegative_part place.square.x

-- a number is its nonnegative part
pub part_of : (z : ℤ) → pos 0 ≤ℤ z → pos (nonnegative_part z) ≡ z
part_of (pos n) from = refl
part_of (negsuc n) from = absurd (omega (arith, ints, from))

-- an earlier place of a tile has a lower number
lower_number : (a b : Place) → IsInTile a → IsInTile b → IsBefore a b → number_of a < number_of b
lower_number a b in_a in_b before =
    let x = part_of a.square.x in_a.right_of_xlo in
    let y = part_of a.square.y in_a.above_ylo in
    let u = part_of b.square.x in_b.right_of_xlo in
    let v = part_of b.square.y in_b.above_ylo in
    let right = in_a.left_of_xhi in
    let above = in_a.below_yhi in
    elim before [
      | inl plane ↦ omega (arith, ints)
      | inr (plane, inl row) ↦ omega (arith, ints)
      | inr (plane, inr (row, column)) ↦ omega (arith, ints)
    ]

-- a place as the place of an attachment
abbrev attached : Place → Attachment
attached place = record { plane = place.plane; square = place.square; region = 0 }

-- of two places the first is no later, or the second before it
in_order : (a b : Place) → IsNoLater a b ⊎ IsBefore b a
in_order a b = elim (cases_Bool (stands_earlier (attached b) (attached a))) [
  | inl earlier ↦ inr (stands_earlier-true (attached b) (attached a) earlier)
  | inr later ↦ inl (stands_earlier-false (attached b) (attached a) later)
]

module _ (Has : Place → Type 0) (inside : (place : Place) → Has place → IsInTile place)
    (none : (least : Place) → IsLeast IsNoLater Has least → ⊥) where
  -- no place with a number below such has the fact
  none_below : (bound : ℕ) (place : Place) → number_of place < bound → Has place → ⊥
  none_below zero place below has = omega (arith, below)
  none_below (suc bound) place below has =
      none place (
        has,
        λ other also. elim (in_order place other) [
          | inl first ↦ first
          | inr before ↦
              let lower = lower_number other place (inside other also) (inside place has) before in
              absurd (none_below bound other (omega (arith, below, lower)) also)
        ],
      )

-- where a place of a tile has a fact that places of the tile alone have, it can't be that no place is the least that has it
pub not_without_least : (Has : Place → Type 0) → ((place : Place) → Has place → IsInTile place) → (place : Place) → Has place
    → ¬ ((least : Place) → IsLeast IsNoLater Has least → ⊥)
not_without_least Has inside place has none = none_below Has inside none (suc (number_of place)) place (omega arith) has
