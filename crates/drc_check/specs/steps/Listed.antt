-- Types and planes that rules name.
use Rattle.std.specs.Prelude.{◌≡◌, ◌⊎◌, ◌==◌, ◌||◌, ℕ, Bool, true, false, List, slice_index_or}
use Rattle.finite_sets.specs.Lists.{In}
use Rattle.tech_model.specs.declared.raw.TypeId.{TypeId}
use Rattle.drc_rules.specs.declared.rules.Rule.{Rule}

-- a list of the rule is of types of the plane, and the type is one of them
abbrev pub IsListedBy : Rule → ℕ → TypeId → Type 0
IsListedBy rule plane kind = ((rule.first_plane ≡ plane) × In kind rule.first) ⊎ ((rule.second_plane ≡ plane) × In kind rule.second)

-- Some rule lists the type, as one of the plane.
pub record IsListedType (rules : List Rule) (plane : ℕ) (kind : TypeId) : Type 0 where
  pub rule : Rule
  pub among : In rule rules
  pub lists : IsListedBy rule plane kind

-- a list of the rule is of types of the plane
abbrev pub has_plane : ℕ → Rule → Bool
has_plane plane rule = rule.first_plane == plane || rule.second_plane == plane

-- the type with this number is marked
abbrev pub IsMarkedType : List Bool → ℕ → Type 0
IsMarkedType marks number = slice_index_or marks number false ≡ true
