-- Why sim files are refused.
use Rattle.std.specs.Prelude.{ℕ, List, [], codes}
use Rattle.text_form.specs.declared.reading.At.{At}
use Rattle.sim_text.specs.declared.faults.SimFault.{SimFault}
use Rattle.sim_text.specs.declared.faults.SimFault.TheVariants as sim
use Rattle.line_answers.specs.declared.refusals.Refusal.{Refusal}
use Rattle.line_answers.specs.Refusals.{at_line}

-- the code of a fault of a sim file
abbrev pub sim_code : SimFault → List ℕ
sim_code sim.Header = codes "S1"
sim_code sim.BadLine = codes "S2"
sim_code sim.Letter = codes "S3"
sim_code sim.Range = codes "S4"
sim_code sim.Name = codes "S5"
sim_code sim.TooLong = []
sim_code (sim.TooMany limit) = []
sim_code sim.Memory = []

-- a fault in a line of a sim file
abbrev pub sim_refusal : List ℕ → At SimFault → Refusal
sim_refusal file at = at_line (codes "E25 ") file at.line (sim_code at.fault)
