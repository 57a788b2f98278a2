use Rattle.names.proofs.Common.{◌≡◌, map, take, class_in}
use Rattle.names.proofs.groups.label_keys.Given as goal

abbrev pub invariant-loop-region : goal.invariant-loop-region
invariant-loop-region l = l.keys.items ≡ map (class_in l.classes) (take l.region-index l.named)
