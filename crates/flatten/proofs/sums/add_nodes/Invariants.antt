use Rattle.flatten.proofs.Common.{◌≡◌, ℕ, List, length, map, take, IsFullNameList, elements_in, element_at, AddAll, node_addend}
use Rattle.flatten.proofs.sums.add_nodes.Given as goal

abbrev pub invariant-loop-at : goal.invariant-loop-at
invariant-loop-at l = record {
  long : length l.sums ≡ length l.fn.sums;
  adds : (list : List (List ℕ)) → IsFullNameList (elements_in l.names) list
      → AddAll (map (node_addend list l.labels (element_at l.names l.element)) (take l.at l.nodes)) l.fn.sums l.sums;
}
