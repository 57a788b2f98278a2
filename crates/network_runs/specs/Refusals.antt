-- Why vector files and networks are refused.
use Rattle.std.specs.Prelude.{ℕ, pos, List, [], ◌++◌, codes}
use Rattle.text_scan.specs.Decimal.{decimal}
use Rattle.text_form.specs.declared.reading.At.{At}
use Rattle.sim_text.specs.declared.limits.SimLimit.{SimLimit}
use Rattle.sim_text.specs.declared.limits.SimLimit.TheVariants as limits
use Rattle.vector_files.specs.declared.faults.VecFault.{VecFault}
use Rattle.vector_files.specs.declared.faults.VecFault.TheVariants as vec
use Rattle.line_answers.specs.declared.refusals.Refusal.{Refusal}
use Rattle.line_answers.specs.Refusals.{of_inside}

-- what sim records, or their network, have too many of
abbrev pub sim_limit_word : SimLimit → List ℕ
sim_limit_word limits.Nodes = codes "Nodes"
sim_limit_word limits.Switches = codes "Switches"

-- a fault in a line of a vector file
abbrev pub vec_fault_text : ℕ → VecFault → List ℕ
vec_fault_text number vec.Vector = codes "E21 vector " ++ decimal (pos number)
vec_fault_text number (vec.NoNode name) = codes "E20 no node " ++ decimal (pos number) ++ codes " " ++ name
vec_fault_text number vec.Memory = []

abbrev pub vec_refusal : At VecFault → Refusal
vec_refusal at = of_inside (vec_fault_text at.line at.fault)
