-- What a tile type is beside the channel of a transistor.
use Rattle.std.specs.Prelude.{◌==◌, ◌&&◌, ℕ, Bool}
use Rattle.std.specs.List.{list_any}
use Rattle.tech_model.specs.declared.raw.RawTech.{RawTech}

-- channels are of this type
abbrev pub is_channel : RawTech → ℕ → Bool
is_channel raw kind = list_any (λ fet. fet.kind.0 == kind) raw.fets

-- the type is listed as a terminal of the transistors of that channel
abbrev pub is_terminal : RawTech → ℕ → ℕ → Bool
is_terminal raw channel kind = list_any (λ fet. fet.kind.0 == channel && list_any (λ t. t.0 == kind) fet.terminals) raw.fets
