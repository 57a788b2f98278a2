use Rattle.flatten.proofs.Common.{ℕ, List, IsFullNameList, elements_in, ArePlaced}
use Rattle.flatten.proofs.ScanLaws.{AreNamedUpTo}
use Rattle.flatten.proofs.nodes.named_nodes.Given as goal

abbrev pub invariant-loop-number : goal.invariant-loop-number
invariant-loop-number l = record {
  named : (list : List (List ℕ)) → IsFullNameList (elements_in l.names) list → AreNamedUpTo list l.labels l.number l.nodes.items;
  placed : ArePlaced l.names l.nodes.items;
}
