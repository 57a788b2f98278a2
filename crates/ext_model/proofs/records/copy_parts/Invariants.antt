use Rattle.ext_model.proofs.Common.{◌≡◌, ◌≤◌, length}
use Rattle.std.proofs.Common.{take, vec_capacity}
use Rattle.ext_model.proofs.records.copy_parts.Given as goal

-- as many parts as were passed have been copied, and there is room for all
abbrev pub invariant-loop-part : goal.invariant-loop-part
invariant-loop-part g l = record {
  copies : l.copies.items ≡ take l.part-index l.parts-2;
  room : length l.parts-2 ≤ vec_capacity l.copies;
}
