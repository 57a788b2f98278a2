-- What the items of a symbol give in its instances: boxes of layers, and instances of the symbols that they call.
use Rattle.std.specs.Prelude.{◌≡◌, ◌⊎◌, ℕ, List, [], length, slice_index_or}
use Rattle.finite_sets.specs.Lists.{In}
use Rattle.geo_core.specs.declared.squares.Rect.{Rect}
use Rattle.geo_core.specs.declared.transforms.Transform.{Transform}
use Rattle.geo_core.specs.Images.{composed, rect_image}
use Rattle.cif_model.specs.declared.cifs.CifItem.{CifItem}
use Rattle.cif_model.specs.declared.cifs.CifItem.TheVariants.{Area, Call}
use Rattle.cif_model.specs.declared.cifs.CifMove.{CifMove}
use Rattle.cif_model.specs.Meanings.{moved}
use Rattle.cif_expansion.specs.declared.faults.ExpansionFault.{ExpansionFault}
use Rattle.cif_expansion.specs.declared.faults.ExpansionFault.TheVariants.{TooMany, OutOfRange, Memory}
use Rattle.cif_expansion.specs.Reach.{MovesWithin, LiesInRange, call_reach}

-- In an instance with one of these placements an item is this box of the layer.
pub record IsBoxOf (items : List CifItem) (placements : List Transform) (layer : ℕ) (box : Rect) : Type 0 where
  pub area : Rect
  pub placement : Transform
  pub is_item : In (Area layer area) items
  pub is_placement : In placement placements
  pub is_image : box ≡ rect_image placement area

-- In an instance with one of these placements an item calls the symbol at this place, and the called symbol's instance has this placement.
pub record IsCallOf (items : List CifItem) (placements : List Transform) (symbol : ℕ) (called : Transform) : Type 0 where
  pub moves : List CifMove
  pub placement : Transform
  pub is_item : In (Call symbol moves) items
  pub is_placement : In placement placements
  pub is_composed : called ≡ composed (moved moves) placement

-- what a list of lists has at this place
abbrev pub list_at : {X : Type 0} → List (List X) → ℕ → List X
list_at lists place = slice_index_or lists place []

-- Each list has what it had, and these things.
pub record AreAdded {X : Type 0} (P : ℕ → X → Type 0) (old new : List (List X)) : Type 0 where
  pub so_many : length new ≡ length old
  pub kept : (place : ℕ) (x : X) → In x (list_at old place) → In x (list_at new place)
  pub added : (place : ℕ) (x : X) → P place x → In x (list_at new place)
  pub only : (place : ℕ) (x : X) → In x (list_at new place) → In x (list_at old place) ⊎ P place x

-- In an instance with one of these placements the box leaves the range.
pub record LeavesRangeIn (placements : List Transform) (area : Rect) : Type 0 where
  pub placement : Transform
  pub is_placement : In placement placements
  pub is_outside : LiesInRange (rect_image placement area) → ⊥

-- all boxes of the items lie within the range
abbrev pub AreInRange : List CifItem → List Transform → Type 0
AreInRange items placements = (layer : ℕ) (box : Rect) → IsBoxOf items placements layer box → LiesInRange box

-- Some box of the items does not.
pub record LeavesRange (items : List CifItem) (placements : List Transform) : Type 0 where
  pub layer : ℕ
  pub box : Rect
  pub is_box : IsBoxOf items placements layer box
  pub is_outside : LiesInRange box → ⊥

-- The lists of boxes and of placements of instances have what they had and what the items give. All boxes of the items lie within the range,
-- and no call moves farther than its steps may.
pub record IsDrawn (items : List CifItem) (placements : List Transform) (boxes : List (List Rect)) (boxes' : List (List Rect))
    (waiting : List (List Transform)) (waiting' : List (List Transform)) : Type 0 where
  pub boxes_are : AreAdded (IsBoxOf items placements) boxes boxes'
  pub calls_are : AreAdded (IsCallOf items placements) waiting waiting'
  pub in_range : AreInRange items placements
  pub near : (symbol : ℕ) (moves : List CifMove) → In (Call symbol moves) items → MovesWithin call_reach (moved moves)

-- the fault is want of memory, or the range, where this holds
abbrev pub IsRangeFault : Type 0 → ExpansionFault → Type 0
IsRangeFault P (TooMany limit) = ⊥
IsRangeFault P OutOfRange = P
IsRangeFault P Memory = Unit {0}
