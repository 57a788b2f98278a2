-- The pieces of all planes of a layout, on whose squares each part has one type.
use Rattle.std.specs.Prelude.{◌≡◌, ℕ, List, Some, AllPairs, slice_get}
use Rattle.geo_core.specs.FiniteSets.Lists.{In}
use Rattle.geo_core.specs.Areas.{AreDisjoint}
use Rattle.geo_core.specs.Covering.{Covers}
use Rattle.tech_model.specs.declared.raw.RawTech.{RawTech}
use Rattle.layout_model.specs.Places.{Place}
use Rattle.offences.specs.declared.plane_stacks.PlaneStack.{PlaneStack}
use Rattle.offences.specs.Offences.{SetLayout}
use Rattle.offences.specs.TypedStacks.{IsTypedStack}

-- The pieces of all planes: those of one plane lie apart, and no part has anything outside them.
pub record ArePlaneStacks (raw : RawTech) (parts : List SetLayout) (stacks : List PlaneStack) : Type 0 where
  pub each : (piece : PlaneStack) → In piece stacks → IsTypedStack raw parts piece.plane piece.stack
  pub apart : AllPairs (λ a b. a.plane ≡ b.plane → AreDisjoint a.stack.area b.stack.area) stacks
  pub outside : (place : Place) → ((piece : PlaneStack) → In piece stacks → piece.plane ≡ place.plane → Covers piece.stack.area place.square → ⊥)
      → (position : ℕ) (part : SetLayout) → slice_get parts position ≡ Some part → part place ≡ 0
