-- The network that the records of a sim file make.
use Rattle.std.specs.Prelude.{◌≡◌, ℕ, ◌<◌, List, [], ◌∷◌, ◌++◌, ◌⊎◌, ◌↔◌, true, All, length, codes}
use Rattle.finite_sets.specs.Lists.{In}
use Rattle.finite_sets.specs.Chain.{Chain, EitherWay}
use Rattle.switch_net.specs.declared.switches.Level.{Level}
use Rattle.switch_net.specs.declared.switches.Level.TheVariants.{Zero, One, X}
use Rattle.switch_net.specs.declared.switches.SwitchKind.{SwitchKind}
use Rattle.switch_net.specs.declared.switches.SwitchKind.TheVariants.{N, P, D}
use Rattle.switch_net.specs.declared.switches.Switch.{Switch}
use Rattle.switch_net.specs.Network.{Network, IsSound}
use Rattle.switch_net.specs.Path.{is_input, state_of}
use Rattle.switch_net.specs.Names.{HasName}

-- a transistor line: its letter, and the names at its gate, its source and its drain
pub record TransistorLine : Type 0 where
  pub letter : ℕ
  pub gate : List ℕ
  pub source : List ℕ
  pub drain : List ℕ

-- what of a sim file makes a network: its transistor lines, the first names of its `C` lines, and the names of its alias lines
pub record SimRecords : Type 0 where
  pub transistors : List TransistorLine
  pub capacitors : List (List ℕ)
  pub aliases : List (List ℕ × List ℕ)

abbrev pub names_of_transistors : List TransistorLine → List (List ℕ)
names_of_transistors [] = []
names_of_transistors (line ∷ lines) = line.gate ∷ line.source ∷ line.drain ∷ names_of_transistors lines

abbrev pub names_of_aliases : List (List ℕ × List ℕ) → List (List ℕ)
names_of_aliases [] = []
names_of_aliases (pair ∷ pairs) = pair.0 ∷ pair.1 ∷ names_of_aliases pairs

-- all names that stand in the records
abbrev pub names_of : SimRecords → List (List ℕ)
names_of records = names_of_transistors records.transistors ++ records.capacitors ++ names_of_aliases records.aliases

-- an alias line has these two names
abbrev pub IsAlias : SimRecords → List ℕ → List ℕ → Type 0
IsAlias records a b = In {X = List ℕ × List ℕ} (a, b) records.aliases

-- alias lines lead from the one name to the other
abbrev pub AreOfOneNode : SimRecords → List ℕ → List ℕ → Type 0
AreOfOneNode records = Chain (EitherWay (IsAlias records))

-- the letters e and n make switches of kind N, p of kind P and d of kind D
abbrev pub IsLetterOf : ℕ → SwitchKind → Type 0
IsLetterOf letter N = (letter ≡ 101) ⊎ (letter ≡ 110)
IsLetterOf letter P = letter ≡ 112
IsLetterOf letter D = letter ≡ 100

abbrev pub IsPower : List (List ℕ × ℕ) → ℕ → Type 0
IsPower names v = HasName names v (codes "Vdd!")

abbrev pub IsGround : List (List ℕ × ℕ) → ℕ → Type 0
IsGround names v = HasName names v (codes "GND!")

-- the switch of a transistor line
pub record IsTransistor (names : List (List ℕ × ℕ)) (line : TransistorLine) (switch : Switch) : Type 0 where
  pub kind : IsLetterOf line.letter switch.kind
  pub gate : HasName names switch.gate line.gate
  pub left : HasName names switch.left line.source
  pub right : HasName names switch.right line.drain

-- one switch for each transistor line, in order
abbrev pub AreTransistors : List (List ℕ × ℕ) → List TransistorLine → List Switch → Type 0
AreTransistors names [] [] = Unit {0}
AreTransistors names [] (switch ∷ switches) = ⊥
AreTransistors names (line ∷ lines) [] = ⊥
AreTransistors names (line ∷ lines) (switch ∷ switches) = IsTransistor names line switch × AreTransistors names lines switches

-- The network of the records, with the node of each name: a node for each class of names that alias lines join, and a switch for
-- each transistor line. Each node has size 1, and stores charge but where it has the name of power or of ground.
pub record IsNetworkOf (records : SimRecords) (net : Network) (names : List (List ℕ × ℕ)) : Type 0 where
  pub named : (name : List ℕ) → In name (names_of records) → (v : ℕ) × HasName names v name
  pub stands : (name : List ℕ) (v : ℕ) → HasName names v name → In name (names_of records) × (v < net.nodes)
  pub each_node : (v : ℕ) → v < net.nodes → (name : List ℕ) × HasName names v name
  pub classes : (a b : List ℕ) (v w : ℕ) → HasName names v a → HasName names w b → (v ≡ w) ↔ AreOfOneNode records a b
  pub switches : AreTransistors names records.transistors net.switches
  pub sizes : All (λ size. size ≡ 1) net.sizes
  pub inputs : (v : ℕ) → v < net.nodes → (is_input net v ≡ true) ↔ (IsPower names v ⊎ IsGround names v)
  pub sound : IsSound net

-- the state in which a node begins: one for power, zero for ground, and else X, as for a node that is both
pub record IsStartOf (names : List (List ℕ × ℕ)) (v : ℕ) (x : Level) : Type 0 where
  pub power : IsPower names v → ¬ (IsGround names v) → x ≡ One
  pub ground : IsGround names v → ¬ (IsPower names v) → x ≡ Zero
  pub both : IsPower names v → IsGround names v → x ≡ X
  pub neither : ¬ (IsPower names v) → ¬ (IsGround names v) → x ≡ X

-- the states in which the network of some records begins
pub record AreStarts (net : Network) (names : List (List ℕ × ℕ)) (s : List Level) : Type 0 where
  pub one_state : length s ≡ net.nodes
  pub each : (v : ℕ) → v < net.nodes → IsStartOf names v (state_of s v)
