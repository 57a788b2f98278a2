-- Runs with a fault that are compared with the run without, as they go.
use Rattle.std.specs.Prelude.{◌≡◌, ◌≤◌, ◌&&◌, ℕ, Bool, true, false, if◌then◌else◌, nat_lt, List, length, zip, All, Option, Some, None, IfSome, IsSomeAnd}
use Rattle.std.specs.List.{list_any}
use Rattle.std.specs.List.Sorted.{IsNonDecreasingBy}
use Rattle.switch_net.specs.declared.switches.Level.{Level}
use Rattle.switch_net.specs.Network.{IsSound, Network}
use Rattle.switch_net.specs.Path.{state_of}
use Rattle.switch_net.specs.SimRecords.{AreStarts}
use Rattle.vector_files.specs.declared.files.VecLine.{VecLine}
use Rattle.vector_files.specs.declared.files.VecLine.TheVariants.{Show}
use Rattle.vector_files.specs.declared.files.Vectors.{Vectors}
use Rattle.fault_replay.specs.VectorRuns.declared.stuck_faults.StuckFault.{StuckFault}
use Rattle.fault_replay.specs.VectorRuns.declared.watching.Seen.{Seen}
use Rattle.fault_replay.specs.VectorRuns.RailNodes.{AreBelow, AreRails}
use Rattle.fault_replay.specs.VectorRuns.Watching.{AreSeen, LinesShow, Watched}
use Rattle.fault_replay.specs.Replays.{FitsRecord, Records}
use Rattle.fault_grade.specs.declared.detecting.GoodRun.{GoodRun}
use Rattle.fault_grade.specs.Grades.{TellsApart, are_opposed}

-- whether what was seen of a node tells a run in these states apart, whose last phase settled
abbrev pub is_shown_apart : List Level → List ℕ × ℕ → Seen → Bool
is_shown_apart states named seen = seen.settled && are_opposed seen.value (state_of states named.1)

-- the same of some nodes
abbrev pub are_apart : List Level → List (List ℕ × ℕ) → List Seen → Bool
are_apart states asked seen = list_any (λ both. is_shown_apart states both.0 both.1) (zip asked seen)

-- whether the line tells a run apart, whose last phase settled or not and which is in these states
abbrev pub is_apart : Bool → List Level → VecLine → List Seen → Bool
is_apart settled states (Show asked) seen = settled && are_apart states asked seen
is_apart settled states line seen = false

-- how many nodes a line shows
abbrev pub asked_count : VecLine → ℕ
asked_count (Show asked) = length asked
asked_count line = 0

-- the least of the lines that detect a fault, where one more does or does not
abbrev pub least_of : Option ℕ → Bool → ℕ → Option ℕ
least_of found false line = found
least_of None true line = Some line
least_of (Some other) true line = if nat_lt other line then Some other else Some line

-- A run from here on a sound network of so many nodes shows this.
pub record HasShown (budget nodes : ℕ) (from : Watched) (lines : List (ℕ × VecLine)) (seen : List Seen) : Type 0 where
  pub sound : IsSound from.at.net
  pub same_nodes : from.at.net.nodes ≡ nodes
  pub one_state : length from.at.states ≡ nodes
  pub last : Watched
  pub shows : LinesShow budget from lines last seen

-- The least number of a line that tells the runs from here apart, if there is one.
pub record Finds (budget : ℕ) (good stuck : Watched) (fault : Option StuckFault) (lines : List (ℕ × VecLine)) (found : Option ℕ) : Type 0 where
  pub tells : IfSome found (TellsApart budget good stuck fault lines)
  pub least : (number : ℕ) → TellsApart budget good stuck fault lines number → IsSomeAnd found (λ first. first ≤ number)

-- What vectors show without a fault, and whether the numbers of their lines rise; power and ground of the network, and the states in which it
-- begins; and what is recorded of the lines from there on.
pub record IsGoodRun (net : Network) (names : List (List ℕ × ℕ)) (budget : ℕ) (vectors : Vectors) (good : GoodRun) : Type 0 where
  pub seen : AreSeen net names budget vectors None good.seen.items
  pub rises : good.rises ≡ true → IsNonDecreasingBy (λ line. line.0) vectors.lines
  pub rails : AreRails names good.rails
  pub below : AreBelow net.nodes good.rails
  pub starts : AreStarts net names good.starts.items
  pub records : Records budget net good.starts.items vectors.lines good.phases.items
  pub fits : All (FitsRecord net.nodes budget) good.phases.items
