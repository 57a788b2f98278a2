-- What the tile types of a technology are to its transistors, as tables by type number.
use Rattle.std.specs.Prelude.{◌≡◌, ℕ, Bool, false, [], slice_index_or}
use Rattle.tech_model.specs.declared.raw.RawTech.{RawTech}
use Rattle.tech_model.specs.ChannelRoles.{is_channel, is_terminal}
use Rattle.fet_regions.specs.declared.roles.Roles.{Roles}

-- the table has the type as a channel's
abbrev pub channel_in : Roles → ℕ → Bool
channel_in roles kind = slice_index_or roles.channels.items kind false

-- the table has the type as a terminal beside a channel of that type
abbrev pub terminal_in : Roles → ℕ → ℕ → Bool
terminal_in roles channel kind = slice_index_or (slice_index_or roles.terminals.items channel []) kind false

-- The tables say what the technology says, of all numbers.
pub record AreRoles (raw : RawTech) (roles : Roles) : Type 0 where
  pub channels : (kind : ℕ) → channel_in roles kind ≡ is_channel raw kind
  pub terminals : (channel kind : ℕ) → terminal_in roles channel kind ≡ is_terminal raw channel kind
