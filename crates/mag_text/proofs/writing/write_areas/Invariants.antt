use Rattle.mag_text.proofs.Common.{◌≡◌, ◌++◌, [], ◌∷◌, drop, area_line, text_of_each}
use Rattle.mag_text.proofs.writing.write_areas.Given as goal

abbrev pub invariant-loop-area : goal.invariant-loop-area
invariant-loop-area l =
    l.out.items ++ text_of_each (λ area. area_line area ∷ []) (drop l.area-index l.areas) ≡ l.initial.out.items
    ++ text_of_each (λ area. area_line area ∷ []) l.areas
