-- Which faults of a network its vectors detect, and at which lines.
use Rattle.std.specs.Prelude.{◌≡◌, ◌≤◌, ℕ, Bool, true, false, not, List, [], ◌∷◌, ◌++◌, Option, Some, None, MatchOption, filter}
use Rattle.std.specs.List.{AllZip, flat_map, range_with_len}
use Rattle.finite_sets.specs.Lists.{In}
use Rattle.switch_net.specs.declared.switches.Level.{Level}
use Rattle.switch_net.specs.declared.switches.Level.TheVariants.{Zero, One}
use Rattle.switch_net.specs.Network.{Network}
use Rattle.switch_net.specs.Path.{state_of}
use Rattle.switch_net.specs.SimRecords.{AreStarts}
use Rattle.vector_files.specs.declared.files.VecLine.{VecLine}
use Rattle.vector_files.specs.declared.files.VecLine.TheVariants.{Show}
use Rattle.vector_files.specs.declared.files.Vectors.{Vectors}
use Rattle.vector_files.specs.LineForms.{is_rail}
use Rattle.fault_replay.specs.VectorRuns.declared.stuck_faults.StuckFault.{StuckFault}
use Rattle.fault_replay.specs.VectorRuns.declared.watching.Seen.{Seen}
use Rattle.fault_replay.specs.VectorRuns.Watching.{LinesShow, Watched, begun_with, counting}
use Rattle.fault_grade.specs.declared.grading.Graded.{Graded}

-- ---- the faults

-- a node stuck at 0, and stuck at 1
abbrev pub faults_at : ℕ → List StuckFault
faults_at v = record { node = v; value = Zero } ∷ record { node = v; value = One } ∷ []

-- the faults of so many nodes, without those that can't be stuck
abbrev pub faults_but : (ℕ → Bool) → ℕ → List StuckFault
faults_but is_never nodes = flat_map faults_at (filter (λ v. not (is_never v)) (range_with_len 0 nodes))

-- the faults of so many nodes with these names: power and ground are never stuck
abbrev pub faults_of : List (List ℕ × ℕ) → ℕ → List StuckFault
faults_of names nodes = faults_but (is_rail names) nodes

-- ---- what detects them

-- one is 0, and the other is 1
abbrev pub are_opposed : Level → Level → Bool
are_opposed Zero One = true
are_opposed One Zero = true
are_opposed x y = false

-- the lines lead a run from the one to the other
abbrev pub Lead : ℕ → Watched → List (ℕ × VecLine) → Watched → Type 0
Lead budget old lines new = (shown : List Seen) × LinesShow budget old lines new shown

-- A line of this number tells two runs apart, one without a fault and one in which a node may be stuck: it shows a node that is 0 in the
-- one and 1 in the other, and the last phase before it settled in both.
pub record TellsApart (budget : ℕ) (good stuck : Watched) (fault : Option StuckFault) (lines : List (ℕ × VecLine)) (number : ℕ) : Type 0 where
  pub before : List (ℕ × VecLine)
  pub asked : List (List ℕ × ℕ)
  pub after : List (ℕ × VecLine)
  pub stands : lines ≡ before ++ (number, Show asked) ∷ after
  pub good_now : Watched
  pub stuck_now : Watched
  pub good_leads : Lead budget good before good_now
  pub stuck_leads : Lead budget stuck (counting fault before) stuck_now
  pub good_settled : good_now.settled ≡ true
  pub stuck_settled : stuck_now.settled ≡ true
  pub named : List ℕ × ℕ
  pub asks : In named asked
  pub opposed : are_opposed (state_of good_now.at.states named.1) (state_of stuck_now.at.states named.1) ≡ true

module _ (net : Network) (names : List (List ℕ × ℕ)) (budget : ℕ) (vectors : Vectors) where
  -- Vectors are run on a network with these names, without the fault and with it: a line of this number tells the runs apart.
  pub record Detects (fault : StuckFault) (number : ℕ) : Type 0 where
    pub start : List Level
    pub starts : AreStarts net names start
    pub tells : TellsApart budget (begun_with None net start) (begun_with (Some fault) net start) (Some fault) vectors.lines number

  -- the least number of a line that detects the fault
  pub record IsDetectedAt (fault : StuckFault) (number : ℕ) : Type 0 where
    pub detects : Detects fault number
    pub least : (other : ℕ) → Detects fault other → number ≤ other

  -- no line detects the fault
  abbrev pub IsUndetected : StuckFault → Type 0
  IsUndetected fault = (number : ℕ) → ¬ (Detects fault number)

  -- the grade of a fault
  pub record IsGrade (fault : StuckFault) (graded : Graded) : Type 0 where
    pub node : graded.node ≡ fault.node
    pub value : graded.value ≡ fault.value
    pub line : MatchOption graded.line (IsUndetected fault) (IsDetectedAt fault)

  -- the grades of all faults of the network, in their order
  abbrev pub AreGrades : List Graded → Type 0
  AreGrades grades = AllZip IsGrade (faults_of names net.nodes) grades
