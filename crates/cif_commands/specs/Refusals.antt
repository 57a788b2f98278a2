-- Why CIF texts are refused.
use Rattle.std.specs.Prelude.{ℕ, List, [], codes}
use Rattle.text_form.specs.declared.reading.At.{At}
use Rattle.cif_expansion.specs.declared.limits.CifLimit.{CifLimit}
use Rattle.cif_expansion.specs.declared.limits.CifLimit.TheVariants.{Depth, Elements, Boxes}
use Rattle.cif_reading.specs.declared.faults.CifFault.{CifFault}
use Rattle.cif_reading.specs.declared.faults.CifFault.TheVariants.{Form, LeftOut, NoSymbol, SymbolTwice, NotWhole, Range, NoEnd, NoLayer, Memory}
use Rattle.line_answers.specs.declared.refusals.Refusal.{Refusal}
use Rattle.line_answers.specs.Refusals.{at_line}

-- the code of a fault of a CIF text
abbrev pub cif_code : CifFault → List ℕ
cif_code Form = codes "K1"
cif_code LeftOut = codes "K2"
cif_code NoSymbol = codes "K3"
cif_code SymbolTwice = codes "K4"
cif_code NotWhole = codes "K5"
cif_code Range = codes "K6"
cif_code NoEnd = codes "K7"
cif_code NoLayer = codes "K8"
cif_code Memory = []

-- a fault in a line of a CIF text
abbrev pub cif_refusal : List ℕ → At CifFault → Refusal
cif_refusal file at = at_line (codes "E30 ") file at.line (cif_code at.fault)

-- what a text stands for too many of
abbrev pub cif_limit_word : CifLimit → List ℕ
cif_limit_word Depth = codes "Depth"
cif_limit_word Elements = codes "Elements"
cif_limit_word Boxes = codes "Boxes"
