use Rattle.std.proofs.Common.{sym, arith, get_or, ◌<◌, ◌+◌, ◌≡◌, ◌≤◌, take, sum_by, ℕ}
use Rattle.std.specs.Prelude.{slice_index}
use Rattle.std.proofs.lemmas.Bool.{lt-ltb}
use Rattle.std.proofs.lemmas.List.Sums.{sum_by_more_le}
use Rattle.element_tree.specs.declared.tree.TreeElement.{TreeElement}
use Rattle.flat_limits.proofs.TreeLaws.{no_flat}
use Rattle.flat_limits.proofs.counts.is_past.Goals as goal

pub returns-then-size-rest : goal.returns-then-size-rest
returns-then-size-rest c =
    let size_of : TreeElement → ℕ = λ element. slice_index c.args.sizes.now element.cell in
    let elements = c.args.elements.now in
    let i = c.loop-element.element-index in
    let so_far : sum_by size_of (take i elements) + size_of (get_or elements i no_flat) ≤ sum_by size_of elements =
    sum_by_more_le size_of elements i no_flat c.loop-element-test.true in
    let rest : c.loop-element.rest + sum_by size_of (take i elements) ≡ c.args.most = c.loop-element.invariant in
    let more : c.loop-element.rest < size_of (get_or elements i no_flat) = c.if-size-rest.true in
    sym (lt-ltb c.args.most (sum_by size_of elements) (omega (arith, so_far, rest, more)))
