-- What is seen of a run in which a node may be stuck. A stuck node is an input in its state from the start on, and a line that would set it,
-- free it or give it a size does nothing.
use Rattle.std.specs.Prelude.{◌≡◌, ◌==◌, ℕ, Bool, true, false, not, List, [], ◌∷◌, ◌++◌, Option, Some, None, filter, map, slice_set}
use Rattle.switch_net.specs.declared.switches.Level.{Level}
use Rattle.switch_net.specs.Network.{Network}
use Rattle.switch_net.specs.Path.{state_of}
use Rattle.switch_net.specs.SimRecords.{AreStarts}
use Rattle.vector_files.specs.declared.files.VecLine.{VecLine}
use Rattle.vector_files.specs.declared.files.VecLine.TheVariants.{Set, Free, Size, Phase, Show}
use Rattle.vector_files.specs.declared.files.Vectors.{Vectors}
use Rattle.vector_runs.specs.declared.replies.VecReply.{VecReply}
use Rattle.vector_runs.specs.declared.replies.VecReply.TheVariants.{Settled}
use Rattle.vector_runs.specs.declared.stuck_faults.StuckFault.{StuckFault}
use Rattle.vector_runs.specs.declared.watching.Seen.{Seen}
use Rattle.vector_runs.specs.Runs.{LineRuns, Standing, begun_in, with_input}

-- whether the line would set the node, free it or give it a size
abbrev pub is_of : ℕ → VecLine → Bool
is_of v (Set w x) = w == v
is_of v (Free w) = w == v
is_of v (Size w k) = w == v
is_of v Phase = false
is_of v (Show asked) = false

-- whether the line does nothing where a node may be stuck
abbrev pub is_left_out : Option StuckFault → VecLine → Bool
is_left_out None line = false
is_left_out (Some fault) line = is_of fault.node line

-- the lines that count where a node may be stuck
abbrev pub counting : Option StuckFault → List (ℕ × VecLine) → List (ℕ × VecLine)
counting None lines = lines
counting (Some fault) lines = filter (λ line. not (is_of fault.node line.1)) lines

-- Where a run stands between two lines, and whether a phase was run and the last one settled.
pub record Watched : Type 0 where
  pub at : Standing
  pub settled : Bool

-- where a run stands once a node that may be stuck is an input in its state
abbrev pub held : Option StuckFault → Standing → Standing
held None at = at
held (Some fault) at = record at { net = with_input at.net fault.node true; states = slice_set at.states fault.node fault.value }

-- where a run begins from these states, in which a node may be stuck
abbrev pub begun_with : Option StuckFault → Network → List Level → Watched
begun_with stuck net states = record { at = held stuck (begun_in net states); settled = false }

-- whether a phase was run and the last one settled, behind a line that replies this
abbrev pub settled_after : VecLine → List VecReply → Bool → Bool
settled_after Phase (Settled number steps ∷ replies) before = true
settled_after Phase replies before = false
settled_after line replies before = before

-- A line does what it does, and the phase that it may run is the last one.
pub record LineIsTaken (budget : ℕ) (old : Watched) (line : VecLine) (new : Watched) : Type 0 where
  pub replies : List VecReply
  pub runs : LineRuns budget old.at line new.at replies
  pub settled : new.settled ≡ settled_after line replies old.settled

-- what the line of this number shows
abbrev pub seen_in : Watched → ℕ → VecLine → List Seen
seen_in now number (Show asked) =
    map (λ named. record { line = number; name = named.0; value = state_of now.at.states named.1; settled = now.settled }) asked
seen_in now number line = []

-- One line is taken, and then the others.
pub record ShowsFirst (budget : ℕ) (old : Watched) (line : ℕ × VecLine) (Rest : Watched → List Seen → Type 0) (shown : List Seen)
    : Type 0 where
  pub between : Watched
  pub later : List Seen
  pub takes : LineIsTaken budget old line.1 between
  pub rest : Rest between later
  pub shows : shown ≡ seen_in old line.0 line.1 ++ later

-- what lines show in their order
abbrev pub LinesShow : ℕ → Watched → List (ℕ × VecLine) → Watched → List Seen → Type 0
LinesShow budget old [] new shown = (new ≡ old) × (shown ≡ [])
LinesShow budget old (line ∷ lines) new shown = ShowsFirst budget old line (λ between later. LinesShow budget between lines new later) shown

-- Vectors are run on a network with these names, in which a node may be stuck, from the states in which it begins: what they show.
pub record AreSeen (net : Network) (names : List (List ℕ × ℕ)) (budget : ℕ) (vectors : Vectors) (stuck : Option StuckFault)
    (shown : List Seen) : Type 0 where
  pub start : List Level
  pub starts : AreStarts net names start
  pub last : Watched
  pub show : LinesShow budget (begun_with stuck net start) (counting stuck vectors.lines) last shown
