use Rattle.ext_text.proofs.Common.{◌≡◌, ℤ, pos, ◌+ℤ◌, ◌-ℤ◌, List, ℕ, ◌++◌, ap, ◌∙◌, w128, decimal, before, behind, first_index}
use mir.Val.{of_z, to_z}
use Rattle.ext_text.proofs.AppendedLines.{ranged_appended}
use Rattle.ext_text.proofs.PathCuts.{index_passed, last_index, low_index}
use Rattle.ext_text.proofs.names.append_ranged.Goals as goal

pub returns : goal.returns
returns c =
    let path = c.args.path.now in
    let lo = first_index path in
    let hi = lo +ℤ pos c.args.count -ℤ pos 1 in
    let from : c.from-lo.result ≡ lo = c.from-lo.ensures ∙ index_passed path c.of-path.result.index c.requires c.of-path.ensures.index in
    let front = c.in_ok-extend_from_slice.ensures.items ∙ ap (λ (text : List ℕ). c.args.out.now.items ++ text) c.of-path.ensures.front in
    let low = c.in_ok-append_decimal.ensures.ok ∙ ap (λ (z : ℤ). c.push.new.self.items ++ decimal z) (low_index path c.from-lo.result c.requires from) in
    let high = c.in_ok-append_decimal-2.ensures.ok ∙ ap (λ (z : ℤ). c.push-2.new.self.items ++ decimal z)
    (ap (λ (n : ℤ). to_z w128 (of_z w128 (to_z w128 (of_z w128 (to_z w128 (of_z w128 c.from-lo.result) +ℤ to_z w128 (of_z w128 n))) -ℤ pos 1)))
    c.from.ensures ∙ last_index path c.from-lo.result c.args.count c.requires from c.ranges.count.fits) in
    let back = c.in_ok-extend_from_slice-2.ensures.items ∙ ap (λ (text : List ℕ). c.push-3.new.self.items ++ text) c.of-path.ensures.back in
    ranged_appended (before 91 path) (behind 44 (behind 91 path)) lo hi c.args.out.now.items _ _ _ _ _ _ _ front c.in_ok-push.ensures.items low
    c.in_ok-push-2.ensures.items high c.in_ok-push-3.ensures.items back
