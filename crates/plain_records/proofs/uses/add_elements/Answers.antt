use Rattle.plain_records.proofs.Common.{◌∷◌, ◌++◌, [], List, map, take, sym, ap, ◌∙◌, append_assoc, elements_of, UseRec, element_use}
use Rattle.plain_records.proofs.UseLaws.{images_more}
use Rattle.plain_records.proofs.uses.add_elements.Goals as goal

pub loop-k-preserved : goal.loop-k-preserved
loop-k-preserved c =
    let one = c.in_ok-element_at-in-Some.field-0 in
    let before = c.args.uses.now.items in
    let make = element_use c.args.used.now in
    let elements = elements_of c.in-Some.grid in
    let more = images_more make elements c.loop-k.k one c.in_ok-element_at-in-Some.ensures in
    c.in_ok-push-in-Some.ensures.items ∙ ap (λ (z : List UseRec). z ++ one ∷ []) c.loop-k.invariant
    ∙ append_assoc before (map make (take c.loop-k.k elements)) (one ∷ []) ∙ ap (λ (z : List UseRec). before ++ z) (sym more)
