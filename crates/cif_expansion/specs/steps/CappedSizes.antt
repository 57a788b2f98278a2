-- Sizes as far as the limits go.
use Rattle.std.specs.Prelude.{◌+◌, ℕ, min}
use Rattle.cif_model.specs.Sizes.{CifSize}
use Rattle.cif_expansion.specs.declared.limits.TheConstants.{LONGEST_CHAIN, MOST_INSTANCES, MOST_BOXES}
use Rattle.cif_expansion.specs.declared.sizes.Size.{Size}

-- the number, or one past the limit if it is past the limit
abbrev pub up_to : ℕ → ℕ → ℕ
up_to limit n = min n (limit + 1)

-- the size with each of its numbers so
abbrev pub capped : CifSize → Size
capped size = record { depth = up_to LONGEST_CHAIN size.depth; instances = up_to MOST_INSTANCES size.instances; boxes = up_to MOST_BOXES size.boxes }
