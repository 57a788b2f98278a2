-- What the commands have in common that run vectors on a network.
use Rattle.std.specs.Prelude.{◌≡◌, ◌⊎◌, ◌≤◌, ℕ, List, [], ◌∷◌, ◌++◌, length, map, Result, Ok, Err, codes}
use Rattle.text_form.specs.declared.reading.At.{At}
use Rattle.session_model.specs.declared.report.LineKind.{LineKind}
use Rattle.session_model.specs.declared.report.LineKind.TheVariants as kind
use Rattle.session_model.specs.declared.report.ReportLine.{ReportLine}
use Rattle.sim_text.specs.declared.faults.SimFault.TheVariants.{TooMany as SimTooMany}
use Rattle.sim_text.specs.declared.files.SimFile.{SimFile}
use Rattle.sim_text.specs.declared.limits.SimLimit.{SimLimit}
use Rattle.switch_net.specs.declared.limits.TheConstants.{MOST_NODES, MOST_SWITCHES}
use Rattle.switch_net.specs.Net.{network_of}
use Rattle.switch_net.specs.Network.{Network}
use Rattle.switch_net.specs.SimRecords.{IsNetworkOf}
use Rattle.sim_networks.specs.SimNetworks.{HasMoreNodesThan, HasTooManyNodes, HasTooManySwitches, IsNumberedByCaps, records_of}
use Rattle.vector_files.specs.declared.faults.VecFault.{VecFault}
use Rattle.vector_files.specs.declared.files.Vectors.{Vectors as VectorFile}
use Rattle.vector_files.specs.VectorFiles.{vectors_in}
use Rattle.vector_runs.specs.declared.replies.VecReply.{VecReply}
use Rattle.vector_runs.specs.declared.replies.VecReply.TheVariants.{Settled, Unsettled, Shown}
use Rattle.vector_runs.specs.Replies.{reply_text}
use Rattle.vector_runs.specs.Runs.{IsRun}
use Rattle.line_answers.specs.Refusals.{refusal_line}
use Rattle.network_runs.specs.declared.simulations.MadeNet.{MadeNet}
use Rattle.network_runs.specs.declared.simulations.MadeNet.TheVariants.{Net, Passed}
use Rattle.network_runs.specs.Refusals.{vec_refusal}

-- The network of sim records, with its names; it has no more nodes and switches than a network may have.
pub record IsNetOf (sim : SimFile) (net : Network) (names : List (List ℕ × ℕ)) : Type 0 where
  pub few_nodes : ¬ (HasMoreNodesThan MOST_NODES (records_of sim))
  pub few_switches : length sim.fets ≤ MOST_SWITCHES
  pub is_network : IsNetworkOf (records_of sim) net names
  pub in_order : IsNumberedByCaps (records_of sim) names

-- the limit that the network of sim records would pass
abbrev pub PassesNet : SimFile → SimLimit → Type 0
PassesNet sim limit = HasTooManyNodes (SimTooMany limit) sim ⊎ HasTooManySwitches (SimTooMany limit) sim

-- The network of sim records, or the limit that it would pass.
abbrev pub IsMadeNet : SimFile → MadeNet → Type 0
IsMadeNet sim (Net named) = IsNetOf sim (network_of named.net) named.names
IsMadeNet sim (Passed limit) = PassesNet sim limit

-- an unsettled phase is something to tell
abbrev pub kind_of : VecReply → LineKind
kind_of (Settled number steps) = kind.Vector
kind_of (Unsettled number) = kind.Unsettled
kind_of (Shown name level) = kind.Vector

-- the line of what a line of a vector file replies
abbrev pub vector_line : VecReply → ReportLine
vector_line reply = record { kind = kind_of reply; text = reply_text reply }

-- The lines are those of what the vectors reply on the network.
pub record TellsRun (budget : ℕ) (net : Network) (names : List (List ℕ × ℕ)) (vectors : VectorFile) (lines : List ReportLine) : Type 0 where
  pub replies : List VecReply
  pub is_run : IsRun net names budget vectors replies
  pub are : lines ≡ map vector_line replies

-- Vectors that were read are run, and a fault of theirs is told.
abbrev pub TellsRead : ℕ → ℕ → Network → List (List ℕ × ℕ) → Result VectorFile (At VecFault) → List ReportLine → Type 0
TellsRead budget number net names (Ok vectors) lines = TellsRun budget net names vectors lines
TellsRead budget number net names (Err at) lines = lines ≡ refusal_line number (vec_refusal at) ∷ []

-- what answers the vector file of this text on the network
abbrev pub TellsVectors : ℕ → ℕ → List ℕ → Network → List (List ℕ × ℕ) → List ReportLine → Type 0
TellsVectors budget number text net names lines = TellsRead budget number net names (vectors_in names text) lines

-- The lines answer a vector file of this text on the network of sim records.
pub record TellsNet (budget number : ℕ) (sim : SimFile) (text : List ℕ) (lines : List ReportLine) : Type 0 where
  pub net : Network
  pub names : List (List ℕ × ℕ)
  pub is_net : IsNetOf sim net names
  pub tells : TellsVectors budget number text net names lines

-- the file of vectors of this name
abbrev pub vec_file : List ℕ → List ℕ
vec_file name = name ++ codes ".vec"
