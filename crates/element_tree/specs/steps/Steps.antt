-- Where one use of a cell leads.
use Rattle.std.specs.Prelude.{ℕ, Option, Some, None}
use Rattle.element_tree.specs.declared.walks.Step.{Step}
use Rattle.element_tree.specs.declared.walks.Step.TheVariants.{Over, Nowhere, To}

abbrev pub step_of : Option (Option ℕ) → Step
step_of None = Over
step_of (Some None) = Nowhere
step_of (Some (Some child)) = To child
