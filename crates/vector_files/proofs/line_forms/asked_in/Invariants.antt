use Rattle.vector_files.proofs.Common.{◌≡◌, ◌++◌, Ok, and_then, asked_in}
use Rattle.vector_files.proofs.line_forms.asked_in.Given as goal

-- what is asked for so far, and what the names that are left add, are what all names give
abbrev pub invariant-loop-name : goal.invariant-loop-name
invariant-loop-name l =
    asked_in l.names l.fn.words ≡ and_then (asked_in l.names l.name-iterator) (λ rest. Ok (l.asked.items ++ rest))
