use Rattle.tech_draft.proofs.Common.{◌≡◌, ◌++◌, ◌∷◌, ◌-◌, ◌+◌, map, range_with_len, type_number}
use Rattle.tech_draft.proofs.draft.set_lines.numbered_images.Given as goal

-- what is left gives what all give
abbrev pub invariant-loop-number : goal.invariant-loop-number
invariant-loop-number l =
    l.images.items ++ map type_number (range_with_len l.number (l.first + l.count - l.number))
    ≡ l.fn.own ∷ map type_number (range_with_len l.first l.count)
