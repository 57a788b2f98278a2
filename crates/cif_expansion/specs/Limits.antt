-- Which limit the size of a text is past.
use Rattle.std.specs.Prelude.{◌<◌, ◌≤◌}
use Rattle.cif_model.specs.Sizes.{CifSize}
use Rattle.cif_expansion.specs.declared.limits.CifLimit.{CifLimit}
use Rattle.cif_expansion.specs.declared.limits.CifLimit.TheVariants.{Depth, Elements, Boxes}
use Rattle.cif_expansion.specs.declared.limits.TheConstants.{LONGEST_CHAIN, MOST_INSTANCES, MOST_BOXES}

-- The size is past no limit.
pub record IsWithinLimits (size : CifSize) : Type 0 where
  pub depth : size.depth ≤ LONGEST_CHAIN
  pub instances : size.instances ≤ MOST_INSTANCES
  pub boxes : size.boxes ≤ MOST_BOXES

-- The size is past this limit, and past none that comes before it.
abbrev pub IsFirstPast : CifLimit → CifSize → Type 0
IsFirstPast Depth size = LONGEST_CHAIN < size.depth
IsFirstPast Elements size = (size.depth ≤ LONGEST_CHAIN) × (MOST_INSTANCES < size.instances)
IsFirstPast Boxes size = (size.depth ≤ LONGEST_CHAIN) × (size.instances ≤ MOST_INSTANCES) × (MOST_BOXES < size.boxes)
