use Rattle.mag_text.proofs.Common.{◌≡◌, ◌++◌, [], ◌∷◌, drop, label_line, text_of_each}
use Rattle.mag_text.proofs.writing.write_each_label.Given as goal

abbrev pub invariant-loop-label : goal.invariant-loop-label
invariant-loop-label l =
    l.out.items ++ text_of_each (λ label. label_line l.tech label ∷ []) (drop l.label-index l.labels)
    ≡ l.initial.out.items ++ text_of_each (λ label. label_line l.tech label ∷ []) l.labels
