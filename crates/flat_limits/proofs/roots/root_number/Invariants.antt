use Rattle.std.proofs.Common.{◌≡◌, drop}
use Rattle.circuit_model.specs.Elements.{ext_of}
use Rattle.flat_limits.proofs.roots.root_number.Given as goal

abbrev pub invariant-loop-number : goal.invariant-loop-number
invariant-loop-number l = ext_of (drop l.number l.exts) l.root ≡ ext_of l.exts l.root
