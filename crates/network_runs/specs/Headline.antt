-- What a report tells of values: behind a settled phase they are steady.
use Rattle.std.specs.Prelude.{◌≡◌, ◌<◌, ℕ, true, List, ◌∷◌, ◌++◌, All, map}
use Rattle.session_model.specs.declared.report.ReportLine.{ReportLine}
use Rattle.switch_net.specs.declared.switches.Level.{Level}
use Rattle.switch_net.specs.Network.{Network}
use Rattle.switch_net.specs.Path.{is_input, state_of}
use Rattle.switch_net.specs.SimRecords.{AreStarts}
use Rattle.vector_files.specs.declared.files.VecLine.{VecLine}
use Rattle.vector_files.specs.declared.files.VecLine.TheVariants.{Phase, Show}
use Rattle.vector_files.specs.declared.files.Vectors.{Vectors as VectorFile}
use Rattle.vector_runs.specs.declared.replies.VecReply.{VecReply}
use Rattle.vector_runs.specs.declared.replies.VecReply.TheVariants.{Settled}
use Rattle.vector_runs.specs.Laws.{IsAtRest, IsShow}
use Rattle.vector_runs.specs.Runs.{LinesRun, Standing, begun_in, lines_of, shown_in}
use Rattle.network_runs.specs.Simulations.{TellsRun, vector_line}

-- A run of the vectors from the states in which the network begins comes to where it stands, and the lines are those of what it replied.
pub record ComesTo (budget : ℕ) (net : Network) (names : List (List ℕ × ℕ)) (vectors : VectorFile) (at : Standing) (lines : List ReportLine)
    : Type 0 where
  pub start : List Level
  pub starts : AreStarts net names start
  pub replies : List VecReply
  pub runs : LinesRun budget (begun_in net start) (lines_of vectors) at replies
  pub are : lines ≡ map vector_line replies

-- The report tells a phase, and behind it, with nothing but shows between, the states of the nodes that are asked for, in the network as
-- the lines have changed it, with the switches that it began with. Where the phase settled, each node that stores charge has its steady
-- value there; and each input has the state that it had before the phase.
pub record ShowsSteadyValues (budget : ℕ) (net : Network) (names : List (List ℕ × ℕ)) (before since : List (ℕ × VecLine)) (number : ℕ)
    (asked : List (List ℕ × ℕ)) (lines : List ReportLine) : Type 0 where
  pub earlier : Standing
  pub at : Standing
  pub phase : VecReply
  pub told : List ReportLine
  pub between : List ReportLine
  pub later : List ReportLine
  pub are : lines ≡ told ++ vector_line phase ∷ between ++ map vector_line (shown_in at.states asked) ++ later
  pub comes : ComesTo budget net names (record { lines = before }) earlier told
  pub goes_on : ComesTo budget net names (record { lines = before ++ (number, Phase) ∷ since }) at (told ++ vector_line phase ∷ between)
  pub same_nodes : at.net.nodes ≡ net.nodes
  pub same_switches : at.net.switches ≡ net.switches
  pub at_rest : (count steps : ℕ) → phase ≡ Settled count steps → (v : ℕ) → v < net.nodes → IsAtRest at v
  pub inputs : (v : ℕ) → v < net.nodes → is_input at.net v ≡ true → state_of at.states v ≡ state_of earlier.states v

-- Each value that is told after a settled phase, with no set, free or size since, is the steady value of its node in the network of the
-- circuit as the lines before have changed its inputs and sizes, where the node stores charge.
abbrev pub ShownLinesTellSteadyValues : Type 0
ShownLinesTellSteadyValues =
    (budget : ℕ) (net : Network) (names : List (List ℕ × ℕ)) (before since after : List (ℕ × VecLine)) (number other : ℕ)
    (asked : List (List ℕ × ℕ)) (lines : List ReportLine)
    → TellsRun budget net names (record { lines = before ++ (number, Phase) ∷ since ++ (other, Show asked) ∷ after }) lines
    → All (λ line. IsShow line.1) since → ShowsSteadyValues budget net names before since number asked lines
