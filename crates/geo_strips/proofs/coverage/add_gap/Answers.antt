use Rattle.geo_strips.proofs.Common.{◌≡◌, [], ◌∷◌, ◌++◌, sym, ap, ◌∙◌, to_z, of_z, rules, w64, to_z-of_z}
use Rattle.std.proofs.Common.{append-nil}
use Rattle.geo_strips.proofs.CoverageLaws.{adds_pushed, adds_joined, stored_min}
use Rattle.geo_strips.proofs.coverage.add_gap.Goals as goal

pub returns-in_default : goal.returns-in_default
returns-in_default c =
    let from : to_z w64 (of_z w64 c.args.from) ≡ c.args.from = to_z-of_z w64 c.args.from c.ranges.from in
    let to : to_z w64 (of_z w64 c.args.to) ≡ c.args.to = to_z-of_z w64 c.args.to c.ranges.to in
    let same : c.pop.new.self.items ≡ c.args.gaps.now.items = sym (c.in_default.ensures.items ∙ append-nil c.pop.new.self.items) in
    rw (c.in_ok-push.ensures.items, from, to, same) (adds_pushed c.args.gaps.now.items c.args.from c.args.to)

pub returns-then-last-from : goal.returns-then-last-from
returns-then-last-from c =
    let from : to_z w64 (of_z w64 c.args.from) ≡ c.args.from = to_z-of_z w64 c.args.from c.ranges.from in
    let to : to_z w64 (of_z w64 c.args.to) ≡ c.args.to = to_z-of_z w64 c.args.to c.ranges.to in
    let touch : c.in-Some.last.to ≡ c.args.from = sym (to_z-of_z w64 c.in-Some.last.to (search rules)) ∙ ap (to_z w64) c.if-last-from.true ∙ from in
    rw (c.in-Some.ensures.items, c.in_ok-push-2.ensures.items, to) (adds_joined c.pop.new.self.items c.in-Some.last _ c.args.from c.args.to touch c.requires
    (to_z-of_z w64 c.min.result (search rules) ∙ stored_min c.min.result c.args.from c.in-Some.last.from c.ranges.from (search rules) c.min.ensures.value))

pub returns : goal.returns
returns c =
    let from : to_z w64 (of_z w64 c.args.from) ≡ c.args.from = to_z-of_z w64 c.args.from c.ranges.from in
    let to : to_z w64 (of_z w64 c.args.to) ≡ c.args.to = to_z-of_z w64 c.args.to c.ranges.to in
    rw (c.in_ok-push-4.ensures.items, c.in_ok-push-3.ensures.items, c.in-Some.ensures.items, from, to)
    (adds_pushed (c.pop.new.self.items ++ c.in-Some.last ∷ []) c.args.from c.args.to)
