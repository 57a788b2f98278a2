-- What the files of circuits, and `ext2sim`, are held to.
use Rattle.std.specs.Prelude.{◌≡◌, ℕ, List}
use Rattle.outside_io.specs.Files.{Files}
use Rattle.ext_model.specs.declared.circuits.Circuit.{Circuit}
use Rattle.circuit_commands.specs.LineAnswers.LineEffects.{FreeEffect}
use Rattle.circuit_commands.specs.declared.circuits.CircuitFile.{CircuitFile}
use Rattle.circuit_commands.specs.declared.circuits.Written.{Written}
use Rattle.circuit_commands.specs.Circuits.{IsWritten}
use Rattle.circuit_commands.specs.CommandExt2sim.{Ext2simMeans}

-- one thing is written of a circuit into a file of a kind: its text with the lines that tell of it, or the limit that it passes
abbrev pub WrittenCircuitsAreUnique : Type 0
WrittenCircuitsAreUnique =
    (file : CircuitFile) (cell : List ℕ) (circuit : Circuit) (written other : Written) → IsWritten file cell circuit written
    → IsWritten file cell circuit other → written ≡ other

-- `ext2sim` has one effect
abbrev pub Ext2simMeansOneEffect : Type 0
Ext2simMeansOneEffect =
    (number : ℕ) (files : Files) (cell : List ℕ) (effect other : FreeEffect) → Ext2simMeans number files cell effect
    → Ext2simMeans number files cell other → effect ≡ other
