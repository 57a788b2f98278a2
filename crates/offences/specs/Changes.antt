-- Roles that differ beside channels, and roles in the code's words.
use Rattle.std.specs.Prelude.{ℕ, Bool, true, false}
use Rattle.tech_model.specs.declared.raw.TypeId.{TypeId}
use Rattle.offences.specs.Roles.{Role, Channel, Terminal, Other}
use Rattle.offences.specs.declared.roles.Role as told
use Rattle.offences.specs.declared.roles.Role.TheVariants as variants

-- the number of a type
abbrev pub number_of : TypeId → ℕ
number_of kind = kind.0

-- a role as the code tells it
abbrev pub told_role : Role → told.Role
told_role Channel = variants.Channel
told_role Terminal = variants.Terminal
told_role Other = variants.Other

-- whether two roles are one
abbrev pub same_role : Role → Role → Bool
same_role Channel Channel = true
same_role Channel Terminal = false
same_role Channel Other = false
same_role Terminal Channel = false
same_role Terminal Terminal = true
same_role Terminal Other = false
same_role Other Channel = false
same_role Other Terminal = false
same_role Other Other = true
