-- Why files of design rules are refused.
use Rattle.std.specs.Prelude.{ℕ, List, [], codes}
use Rattle.text_form.specs.declared.reading.At.{At}
use Rattle.drc_rules.specs.declared.faults.DrcFault.{DrcFault}
use Rattle.drc_rules.specs.declared.faults.DrcFault.TheVariants.{Form, NoLayer, TwoPlanes, Distance, InBoth, TooManyRules, Memory}
use Rattle.line_answers.specs.declared.refusals.Refusal.{Refusal}
use Rattle.line_answers.specs.Refusals.{at_line}

-- the code of a fault of a file of design rules
abbrev pub drc_code : DrcFault → List ℕ
drc_code Form = codes "G1"
drc_code NoLayer = codes "G2"
drc_code TwoPlanes = codes "G3"
drc_code Distance = codes "G4"
drc_code InBoth = codes "G5"
drc_code TooManyRules = codes "G6"
drc_code Memory = []

-- a fault in a line of a file of design rules
abbrev pub drc_refusal : List ℕ → At DrcFault → Refusal
drc_refusal file at = at_line (codes "E29 ") file at.line (drc_code at.fault)
