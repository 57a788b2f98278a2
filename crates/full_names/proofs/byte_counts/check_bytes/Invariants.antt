use Rattle.full_names.proofs.Common.{◌≡◌, ◌≤◌, ◌+◌, take, MOST_NAME_BYTES, global_bytes, element_bytes}
use Rattle.full_names.proofs.byte_counts.check_bytes.Given as goal

abbrev pub invariant-loop-element : goal.invariant-loop-element
invariant-loop-element l = record {
  sum : l.total ≡ global_bytes l.globals + element_bytes l.records (take l.element-index l.element-items);
  few : l.total ≤ MOST_NAME_BYTES;
}
