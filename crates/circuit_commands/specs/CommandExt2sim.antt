-- `ext2sim c`: reads c.ext and the circuit file of every cell below it, and stores the sim file of the circuit that they mean.
use Rattle.std.specs.Prelude.{◌≡◌, ◌⊎◌, ℕ, List}
use Rattle.outside_io.specs.Files.{Files}
use Rattle.session_model.specs.FileTrees.{All, fetched_by}
use Rattle.ext_model.specs.declared.circuits.Circuit.{Circuit}
use Rattle.ext_model.specs.declared.arrays.ArrayExt.{ArrayExt}
use Rattle.circuit_model.specs.declared.faults.FlatFault.{FlatFault}
use Rattle.circuit_model.specs.Refusals.{IsFlatFaultOf, IsFlatOf}
use Rattle.ext_loading.specs.PlainRecords.Plains.{plains}
use Rattle.ext_loading.specs.declared.faults.ExtLoadFault.{ExtLoadFault}
use Rattle.ext_loading.specs.Loads.{AreRead, LoadIsRefused}
use Rattle.ext_loading.specs.Readings.{circuit_files}
use Rattle.line_answers.specs.LineEffects.{FreeEffect, refused}
use Rattle.circuit_commands.specs.declared.circuits.Written.{Written}
use Rattle.circuit_commands.specs.Circuits.{IsSimWritten, lines_of, stores_of}
use Rattle.circuit_commands.specs.Refusals.{flat_refusal, tree_refusal}

-- The files of the tree are refused.
pub record RefusesTree (number : ℕ) (files : Files) (cell : List ℕ) (effect : FreeEffect) : Type 0 where
  pub fault : ExtLoadFault
  pub fetched : List (List ℕ)
  pub is_refused : LoadIsRefused files cell fetched fault
  pub is : effect ≡ refused number tt (tree_refusal fault) fetched

-- All files were read, and the plain forms of their records mean no circuit.
pub record RefusesRecords (number : ℕ) (files : Files) (cell : List ℕ) (effect : FreeEffect) : Type 0 where
  pub exts : List ArrayExt
  pub are_read : AreRead files cell exts
  pub fault : FlatFault
  pub is_fault : IsFlatFaultOf (plains exts) cell fault
  pub is : effect ≡ refused number tt (flat_refusal fault) (fetched_by circuit_files (All exts))

-- All files were read, and the circuit that the plain forms of their records mean is written.
pub record WritesTree (number : ℕ) (files : Files) (cell : List ℕ) (effect : FreeEffect) : Type 0 where
  pub exts : List ArrayExt
  pub are_read : AreRead files cell exts
  pub circuit : Circuit
  pub is_flat : IsFlatOf (plains exts) cell circuit
  pub written : Written
  pub is_written : IsSimWritten cell circuit written
  pub is : effect ≡ record {
    state = tt;
    lines = lines_of number written;
    stores = stores_of written;
    fetched = fetched_by circuit_files (All exts);
  }

-- It needs no technology.
abbrev pub Ext2simMeans : ℕ → Files → List ℕ → FreeEffect → Type 0
Ext2simMeans number files cell effect =
    RefusesTree number files cell effect
    ⊎ (RefusesRecords number files cell effect ⊎ WritesTree number files cell effect)
