use Rattle.std.proofs.Common.{◌≡◌, ◌+◌, take, sum_by}
use Rattle.std.specs.Prelude.{slice_index}
use Rattle.flat_limits.proofs.counts.is_past.Given as goal

abbrev pub invariant-loop-element : goal.invariant-loop-element
invariant-loop-element l = l.rest + sum_by (λ element. slice_index l.sizes element.cell) (take l.element-index l.elements) ≡ l.most
