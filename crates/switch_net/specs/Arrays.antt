-- How long the arrays are in which the steps of a network are worked out, and that the switches are sorted in them.
use Rattle.std.specs.Prelude.{◌≡◌, ℕ, List, length}
use Rattle.switch_net.specs.declared.arrays.Strengths.{Strengths}
use Rattle.switch_net.specs.declared.arrays.Work.{Work}
use Rattle.switch_net.specs.declared.switches.Switch.{Switch}
use Rattle.switch_net.specs.Sorted.{AreAllSorted}

-- a strength for each node, and room for each to wait
pub record AreStrengthsFor (nodes : ℕ) (strengths : Strengths) : Type 0 where
  pub definite : length strengths.definite ≡ nodes
  pub other_than_one : length strengths.other_than_one ≡ nodes
  pub other_than_zero : length strengths.other_than_zero ≡ nodes
  pub waiting : length strengths.waiting.inside ≡ nodes

-- the arrays of a network of so many nodes and these switches
pub record IsWorkFor (nodes : ℕ) (switches : List Switch) (work : Work) : Type 0 where
  pub adjacency : AreAllSorted nodes switches work.adjacency
  pub marks : length work.marks.inside ≡ nodes
  pub forced : length work.forced.inside ≡ nodes
  pub strengths : AreStrengthsFor nodes work.strengths
  pub next : length work.next ≡ nodes
  pub changed : length work.changed ≡ nodes
