use Rattle.flatten.proofs.Common.{ℕ, List, take, flat_map, IsFullNameList, elements_in, HaveSums, addends_in}
use Rattle.flatten.proofs.sums.node_sums.Given as goal

abbrev pub invariant-loop-number : goal.invariant-loop-number
invariant-loop-number l =
    (list : List (List ℕ)) → IsFullNameList (elements_in l.names) list
    → HaveSums l.classes.count l.measured (flat_map (addends_in list l.classes.labels) (take l.number (elements_in l.names))) l.sums.items
