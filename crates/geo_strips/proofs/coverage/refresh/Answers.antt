use Rattle.geo_strips.proofs.Common.{refl, sym, ap, ◌∙◌, rules, int_max, int_min, w64, to_z-of_z, least_of, most_of}
use Rattle.geo_strips.proofs.CoverageLaws.{stored_max, stored_min}
use Rattle.geo_strips.proofs.coverage.refresh.Goals as goal

pub returns : goal.returns
returns c =
    let fork = c.args.fork.now in
    let low = stored_min c.min-least.result c.least.result c.least-2.result (search rules) (search rules) c.min-least.ensures.value
    ∙ ap (λ v. int_min v c.least-2.result) c.least.ensures ∙ ap (int_min (least_of fork.left)) c.least-2.ensures in
    let high = sym (to_z-of_z w64 c.max-most.result (search rules)) ∙ stored_max c.max-most.result c.most.result c.most-2.result (search rules)
    (search rules) (search rules) c.max-most.ensures.value
    ∙ ap (λ v. int_max v c.most-2.result) c.most.ensures ∙ ap (int_max (most_of fork.left)) c.most-2.ensures in
    let least = stored_max c.max-fork.result fork.least c.min-least.result (search rules) (search rules) (search rules) c.max-fork.ensures.value
    ∙ ap (int_max fork.least) low in
    let most = stored_max c.max-fork-2.result fork.most c.max-most.result (search rules) (search rules) (search rules) c.max-fork-2.ensures.value
    ∙ ap (int_max fork.most) high in
    rw (least, most) refl
