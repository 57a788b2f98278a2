-- What runs of vectors on the network of a sim file are held to.
use Rattle.std.specs.Prelude.{◌≡◌, ℕ, List}
use Rattle.outside_io.specs.Files.{Files}
use Rattle.ext_model.specs.declared.circuits.Circuit.{Circuit}
use Rattle.session_model.specs.declared.report.ReportLine.{ReportLine}
use Rattle.sim_text.specs.declared.files.SimFile.{SimFile}
use Rattle.sim_text.specs.declared.limits.SimLimit.{SimLimit}
use Rattle.switch_net.specs.Network.{Network}
use Rattle.uniqueness.specs.Networks.{NameAlike}
use Rattle.circuit_commands.specs.LineAnswers.LineEffects.{FreeEffect}
use Rattle.network_commands.specs.NetworkRuns.declared.network_runs.NetworkRun.{NetworkRun}
use Rattle.network_commands.specs.NetworkRuns.NetworkRuns.{TellsCircuit}
use Rattle.network_commands.specs.NetworkRuns.Simulations.{IsNetOf, PassesNet, TellsNet, TellsVectors}
use Rattle.network_commands.specs.CommandSimrun.{SimrunMeans}

-- a sim file has one network, and its names are the same but for the order in which they are listed
abbrev pub SimNetworksAreUnique : Type 0
SimNetworksAreUnique =
    (sim : SimFile) (net other : Network) (names others : List (List ℕ × ℕ)) → IsNetOf sim net names → IsNetOf sim other others
    → (net ≡ other) × NameAlike names others

-- the network of a sim file would pass one limit
abbrev pub PassedLimitsAreUnique : Type 0
PassedLimitsAreUnique = (sim : SimFile) (limit other : SimLimit) → PassesNet sim limit → PassesNet sim other → limit ≡ other

-- or there is the network, and it passes none
abbrev pub NetworksPassNoLimit : Type 0
NetworksPassNoLimit =
    (sim : SimFile) (net : Network) (names : List (List ℕ × ℕ)) (limit : SimLimit) → IsNetOf sim net names → ¬ (PassesNet sim limit)

-- a text of vectors is answered by the same lines, whichever list of the names it is read with
abbrev pub VectorAnswersAreUnique : Type 0
VectorAnswersAreUnique =
    (budget number : ℕ) (sim : SimFile) (text : List ℕ) (net other : Network) (names others : List (List ℕ × ℕ)) (lines more : List ReportLine)
    → IsNetOf sim net names → IsNetOf sim other others → TellsVectors budget number text net names lines
    → TellsVectors budget number text other others more → lines ≡ more

-- so what answers it on the network of a sim file is one list of lines
abbrev pub NetworkAnswersAreUnique : Type 0
NetworkAnswersAreUnique =
    (budget number : ℕ) (sim : SimFile) (text : List ℕ) (lines more : List ReportLine) → TellsNet budget number sim text lines
    → TellsNet budget number sim text more → lines ≡ more

-- and `simrun` has one effect
abbrev pub SimrunMeansOneEffect : Type 0
SimrunMeansOneEffect =
    (budget number : ℕ) (files : Files) (name file : List ℕ) (effect other : FreeEffect) → SimrunMeans budget number files name file effect
    → SimrunMeans budget number files name file other → effect ≡ other

-- what answers a run on the network of a circuit, of a text of vectors, of its grades or of the vectors of a stack, is one list of lines
abbrev pub CircuitAnswersAreUnique : Type 0
CircuitAnswersAreUnique =
    (run : NetworkRun) (budget number : ℕ) (circuit : Circuit) (lines more : List ReportLine) → TellsCircuit run budget number circuit lines
    → TellsCircuit run budget number circuit more → lines ≡ more
