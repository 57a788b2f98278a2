use Rattle.interact.proofs.Common.{◌≡◌, ◌∙◌, rules, w64, to_z, of_z, int_max, int_min, to_z-of_z, stored_max, stored_min}
use Rattle.interact.proofs.counts.Bounds.joined.Goals as goal

pub returns : goal.returns
returns c =
    let one = c.args.self.now in
    let other = c.args.other.now in
    let least : to_z w64 (of_z w64 c.min.result) ≡ int_min one.least other.least = to_z-of_z w64 c.min.result (search rules)
    ∙ stored_min c.min.result one.least other.least (search rules) (search rules) c.min.ensures.value in
    let most : to_z w64 (of_z w64 c.max.result) ≡ int_max one.most other.most =
    stored_max c.max.result one.most other.most (search rules) (search rules) (search rules) c.max.ensures.value in
    let least_shared : to_z w64 (of_z w64 c.min-2.result) ≡ int_min one.least_shared other.least_shared = to_z-of_z w64 c.min-2.result (search rules)
    ∙ stored_min c.min-2.result one.least_shared other.least_shared (search rules) (search rules) c.min-2.ensures.value in
    let most_lone : to_z w64 (of_z w64 c.max-2.result) ≡ int_max one.most_lone other.most_lone =
    stored_max c.max-2.result one.most_lone other.most_lone (search rules) (search rules) (search rules) c.max-2.ensures.value in
    cc
