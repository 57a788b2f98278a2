-- The first number that is left is that of the next image.
use Rattle.tech_draft.proofs.Common.{◌≡◌, ◌+◌, ◌-◌, ◌++◌, ◌∙◌, ℕ, List, map, ap, sym, arith, type_number}
use Rattle.std.proofs.Common.{append_assoc}
use Rattle.finite_sets.proofs.Searches.{range_split}
use Rattle.tech_draft.proofs.draft.set_lines.numbered_images.Goals as goal

pub loop-number-preserved : goal.loop-number-preserved
loop-number-preserved c =
    let n = c.loop-number.number in
    let whole = c.args.first + c.args.count in
    let left : whole - n ≡ whole - (n + 1) + 1 = omega (arith, c.loop-number-test.true) in
    let split = range_split n (whole - n) (whole - (n + 1)) left in
    rw (c.in_ok-push-2.ensures.items, append_assoc)
    (ap (λ (ns : List ℕ). c.loop-number.images.items ++ map type_number ns) (sym split) ∙ c.loop-number.invariant)
