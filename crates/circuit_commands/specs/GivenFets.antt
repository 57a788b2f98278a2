-- Transistors of a circuit that are given one after the other, as sim text.
use Rattle.std.specs.Prelude.{◌≡◌, ℕ, List}
use Rattle.std.specs.List.{flat_map}
use Rattle.ext_model.specs.declared.records.FetRec.{FetRec}
use Rattle.sim_records.specs.Drafts.{IsDraftOf}
use Rattle.sim_records.specs.Switches.{switches_of}
use Rattle.circuit_commands.specs.declared.given.SimFets.{SimFets}
use Rattle.circuit_commands.specs.Circuits.{bare_lines}

-- It has the switches of these transistors of a circuit in the technology of that name, as far as a sim text goes, and the lines of those without
-- terminals.
pub record HasSimFets (sink : SimFets) (tech : List ℕ) (fets : List FetRec) : Type 0 where
  pub draft : IsDraftOf tech (flat_map switches_of fets) sink.draft
  pub bare : sink.bare.items ≡ bare_lines fets
