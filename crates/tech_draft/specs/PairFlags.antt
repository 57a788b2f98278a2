-- Flags for pairs of types.
use Rattle.std.specs.Prelude.{◌≡◌, ◌+◌, ◌*◌, ◌<◌, ℕ, Bool, false, List, slice_index_or}
use Rattle.tech_model.specs.declared.raw.TypeId.{TypeId}
use Rattle.tech_draft.specs.ListLines.{has_pair}
use Rattle.tech_draft.specs.declared.draft.pair_list.TheConstants.{FLAGS_OF_ONE}

-- the place of the flag of two types
abbrev pub flag_place : TypeId → TypeId → ℕ
flag_place s t = s.0 * FLAGS_OF_ONE + t.0

-- the flags say of all types whether they are one of the pairs
abbrev pub HasFlags : List Bool → List (TypeId × TypeId) → Type 0
HasFlags flags pairs = (s t : TypeId) → t.0 < FLAGS_OF_ONE → slice_index_or flags (flag_place s t) false ≡ has_pair pairs s t
