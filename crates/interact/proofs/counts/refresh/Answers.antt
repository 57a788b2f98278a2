use Rattle.interact.proofs.Common.{◌≡◌, ap, sym, ◌∙◌, rules, w64, to_z, of_z, to_z-of_z, bounds_of, shifted}
use Rattle.interact.specs.steps.Counts.{joined, of_all, of_told}
use Rattle.interact.proofs.counts.refresh.Goals as goal
use Rattle.interact.proofs.counts.refresh.Goals.{in-Some, in-None}

pub returns : goal.returns
returns c =
    let fork = c.args.fork.now in
    let extra : to_z w64 (of_z w64 fork.extra) ≡ fork.extra = to_z-of_z w64 fork.extra (search rules) in
    let joint = joined (bounds_of fork.left) (bounds_of fork.right) in
    let both : c.joined.result ≡ joint =
    c.joined.ensures ∙ ap (λ b. joined b c.bounds-2.result) c.bounds.ensures ∙ ap (joined (bounds_of fork.left)) c.bounds-2.ensures in
    let more : c.in_ok-bounds.bounds ≡ shifted fork.extra joint =
    c.in_ok-bounds.ensures ∙ ap (λ v. shifted v c.joined.result) extra ∙ ap (shifted fork.extra) both in
    let told : c.match-fork.fork ≡ of_told fork.all (shifted fork.extra joint) = elim c.match-fork.branch [
      | in-Some w ↦ w.fork-is ∙ w.of_all-fork.ensures ∙ ap (of_all w.in-Some.shared) more
          ∙ sym (ap (λ all. of_told all (shifted fork.extra joint)) w.in-Some.is)
      | in-None w ↦ w.fork-is ∙ more ∙ sym (ap (λ all. of_told all (shifted fork.extra joint)) w.in-None.is)
    ] in
    ap (λ b. record fork { bounds = b }) told
