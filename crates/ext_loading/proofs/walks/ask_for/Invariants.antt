use Rattle.ext_loading.proofs.Common.{◌≡◌, ◌++◌, map}
use Rattle.ext_loading.proofs.walks.ask_for.Given as goal

abbrev pub invariant-loop-used : goal.invariant-loop-used
invariant-loop-used l = l.left.items ≡ l.fn.left.items ++ map (λ used. used.cell) (map (λ used. used.now) l.yielded)
