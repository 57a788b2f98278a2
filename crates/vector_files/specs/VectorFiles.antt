-- The lines that a vector file has for a network.
use Rattle.std.specs.Prelude.{◌≡◌, ◌<◌, ◌+◌, ℕ, false, List, [], ◌∷◌, ◌++◌, length, All, Option, Some, None, Result, Ok, Err}
use Rattle.text_scan.specs.Lines.{lines_of}
use Rattle.text_form.specs.declared.reading.At.{At}
use Rattle.text_form.specs.Folds.{text_state}
use Rattle.text_form.specs.SaidLines.{AreSaid, saying}
use Rattle.switch_net.specs.declared.network.NamedNet.{NamedNet}
use Rattle.switch_net.specs.Network.{IsSize}
use Rattle.vector_files.specs.declared.faults.VecFault.{VecFault}
use Rattle.vector_files.specs.declared.files.VecLine.{VecLine}
use Rattle.vector_files.specs.declared.files.VecLine.TheVariants.{Set, Free, Size, Phase, Show}
use Rattle.vector_files.specs.declared.files.Vectors.{Vectors}
use Rattle.vector_files.specs.LineForms.{is_rail, says}

abbrev pub nothing_yet : Vectors
nothing_yet = record { lines = [] }

-- the lines with what one more says
abbrev pub with_said : Vectors → Option (ℕ × VecLine) → Vectors
with_said vectors None = vectors
with_said vectors (Some line) = record { lines = vectors.lines ++ line ∷ [] }

-- The lines of a text that are not read over, with their numbers, for a network with these names of nodes; or the first faulty line,
-- with its first fault.
unfoldable pub vectors_in : List (List ℕ × ℕ) → List ℕ → Result Vectors (At VecFault)
vectors_in names text = text_state (saying (says names) with_said) Ok nothing_yet (lines_of text)

-- The first faulty line of a text: the lines before it say something or are read over, and it has the fault.
pub record IsRefusedAt (names : List (List ℕ × ℕ)) (text : List ℕ) (at : At VecFault) : Type 0 where
  pub before : List (List ℕ)
  pub line : List ℕ
  pub after : List (List ℕ)
  pub said : List (Option (ℕ × VecLine))
  pub lines_are : lines_of text ≡ before ++ line ∷ after
  pub fine : AreSaid (says names) 1 before said
  pub numbered : at.line ≡ 1 + length before
  pub faulty : says names (1 + length before) line ≡ Err at.fault

-- the node may be changed: it is one of so many, and neither power nor ground
abbrev pub IsChangeable : List (List ℕ × ℕ) → ℕ → ℕ → Type 0
IsChangeable names nodes v = (v < nodes) × (is_rail names v ≡ false)

-- the line fits a network of so many nodes with these names
abbrev pub IsLineWithin : List (List ℕ × ℕ) → ℕ → VecLine → Type 0
IsLineWithin names nodes (Set v x) = IsChangeable names nodes v
IsLineWithin names nodes (Free v) = IsChangeable names nodes v
IsLineWithin names nodes (Size v k) = IsChangeable names nodes v × IsSize k
IsLineWithin names nodes Phase = Unit {0}
IsLineWithin names nodes (Show asked) = All (λ named. named.1 < nodes) asked

-- each line fits the network
abbrev pub IsWithin : NamedNet → Vectors → Type 0
IsWithin named vectors = All (λ line. IsLineWithin named.names named.net.nodes line.1) vectors.lines
