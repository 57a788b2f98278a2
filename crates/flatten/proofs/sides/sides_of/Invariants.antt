use Rattle.flatten.proofs.Common.{◌≡◌, ℕ, List, map, take, IsFullNameList, elements_in, element_at, side_of}
use Rattle.flatten.proofs.sides.sides_of.Given as goal

abbrev pub invariant-loop-at : goal.invariant-loop-at
invariant-loop-at l =
    (list : List (List ℕ)) → IsFullNameList (elements_in l.names) list
    → l.sides.items ≡ map (side_of list l.labels (element_at l.names l.element)) (take l.at l.terminals)
