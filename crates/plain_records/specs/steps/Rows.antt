-- How many merges a record has, up to one more than a tree may have.
use Rattle.std.specs.Prelude.{ℕ, suc, min, length}
use Rattle.std.specs.List.{flat_map}
use Rattle.ext_model.specs.declared.arrays.ArrayExt.{ArrayExt}
use Rattle.ext_model.specs.Plain.{plain_merges}
use Rattle.circuit_model.specs.declared.limits.TheConstants.{MOST_MERGES}

-- the number, or one more than the most
abbrev pub capped : ℕ → ℕ
capped count = min (suc MOST_MERGES) count

-- how many merges the record stands for
abbrev pub merges_in : ArrayExt → ℕ
merges_in ext = capped (length (flat_map plain_merges ext.merges))
