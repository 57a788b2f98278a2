use Rattle.undo_log.proofs.Common.{◌≡◌, ◌≤◌, length, take}
use Rattle.std.proofs.Common.{vec_capacity}
use Rattle.undo_log.proofs.inverses.copy_labels.Given as goal

-- as many labels as were passed have been copied, and there is room for all
abbrev pub invariant-loop-label : goal.invariant-loop-label
invariant-loop-label l = record {
  copies : l.copies.items ≡ take l.label-index l.labels;
  room : length l.labels ≤ vec_capacity l.copies;
}
