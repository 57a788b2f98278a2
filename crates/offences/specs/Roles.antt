-- What a type is beside the channel of a transistor.
use Rattle.std.specs.Prelude.{◌==◌, ℕ, if◌then◌else◌, Option, Some, None}
use Rattle.tech_model.specs.declared.raw.RawTech.{RawTech}
use Rattle.tech_model.specs.ChannelRoles.{is_terminal}

-- It is more of the channel, a terminal of the transistor, or neither.
pub data Role : Type 0 where
  Channel : Role
  Terminal : Role
  Other : Role

-- The role of a type beside a channel of the type `fet`. What is undefined is neither, and so is space.
abbrev pub role_of : RawTech → ℕ → Option ℕ → Role
role_of raw fet None = Other
role_of raw fet (Some kind) = if kind == fet then Channel else if is_terminal raw fet kind then Terminal else Other
