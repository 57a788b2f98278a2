use Rattle.interact.proofs.Common.{◌≡◌, ℤ, ◌<◌, length, get_or, ◌∙◌, sym, ap, subst, rules, pos, to_z, of_z, to_z-of_z, IsCut}
use Rattle.std.proofs.Common.{◌/◌}
use Rattle.std.specs.Int.{w64}
use Rattle.std.specs.Int.RustNames.{FitsSigned}
use Rattle.std.proofs.lemmas.List.{get_or_default}
use Rattle.interact.proofs.CountLaws.{cuts_from_sides}
use Rattle.interact.proofs.counts.+no_counts.Goals as goal

pub returns-clause-cuts : goal.returns-clause-cuts
returns-clause-cuts t c =
    let fork = c.in_ok-new.field-0.value in
    let sides = c.args.sides.now in
    let inside : length sides / 2 < length sides = search rules in
    let middle : (d : ℤ) → get_or sides (length sides / 2) d ≡ fork.at = λ d.
    (let at : fork.at ≡ to_z w64 (of_z w64 (get_or sides (length sides / 2) (pos 0))) = ap (λ v. v.at) c.in_ok-new.ensures.ok in
    let fits : FitsSigned w64 (get_or sides (length sides / 2) (pos 0)) = search rules in
    get_or_default sides (length sides / 2) d (pos 0) inside ∙ sym (at ∙ to_z-of_z w64 (get_or sides (length sides / 2) (pos 0)) fits)) in
    let same_left : c.in_ok-no_counts.field-0 ≡ fork.left = sym (ap (λ v. v.left) c.in_ok-new.ensures.ok) in
    let same_right : c.in_ok-no_counts-2.field-0 ≡ fork.right = sym (ap (λ v. v.right) c.in_ok-new.ensures.ok) in
    cuts_from_sides fork.left fork.right sides (length sides / 2) fork.at c.requires inside middle
    (λ v i. subst (λ w. IsCut w v) same_left (c.in_ok-no_counts.ensures.cuts v i))
    (λ v i. subst (λ w. IsCut w v) same_right (c.in_ok-no_counts-2.ensures.cuts v i))
