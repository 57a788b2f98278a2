use Rattle.plain_records.proofs.Common.{◌≡◌, ◌++◌, map, take, elements_of, element_use}
use Rattle.plain_records.proofs.uses.add_elements.Given as goal

-- the elements before this one are appended
abbrev pub invariant-loop-k : goal.invariant-loop-k
invariant-loop-k l = l.uses.items ≡ l.fn.uses.items ++ map (element_use l.used) (take l.k (elements_of l.grid))
