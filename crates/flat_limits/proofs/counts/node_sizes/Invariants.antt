use Rattle.std.proofs.Common.{◌≡◌, length, map, take}
use Rattle.flat_limits.proofs.counts.node_sizes.Given as goal

abbrev pub invariant-loop-ext : goal.invariant-loop-ext
invariant-loop-ext l = l.sizes.items ≡ map (λ ext. length ext.nodes) (take l.ext-index l.exts)
