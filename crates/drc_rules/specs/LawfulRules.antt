-- What holds of each rule that a file has for a technology.
use Rattle.std.specs.Prelude.{◌≡◌, ◌<◌, ◌≤ℤ◌, pos, ℕ, IsTrue, List, length, All}
use Rattle.tech_model.specs.declared.raw.TypeId.{TypeId}
use Rattle.tech_model.specs.declared.raw.RawTech.{RawTech}
use Rattle.tech_model.specs.Types.{is_type, plane_of}
use Rattle.drc_rules.specs.declared.rules.Rule.{Rule}
use Rattle.drc_rules.specs.declared.limits.TheConstants.{LARGEST_DISTANCE}

-- The plane is one of the technology, and the types are types other than space that stand on it.
pub record AreTypesOn (raw : RawTech) (plane : ℕ) (types : List TypeId) : Type 0 where
  pub below : plane < length raw.planes
  pub are : All (λ t. IsTrue (is_type raw t.0)) types
  pub placed : All (λ t. plane_of raw t.0 ≡ plane) types

-- The types of each list stand on the list's plane, and the distance is one that a rule may have.
pub record IsLawfulRule (raw : RawTech) (rule : Rule) : Type 0 where
  pub first : AreTypesOn raw rule.first_plane rule.first
  pub second : AreTypesOn raw rule.second_plane rule.second
  pub least : pos 1 ≤ℤ rule.d
  pub most : rule.d ≤ℤ LARGEST_DISTANCE
