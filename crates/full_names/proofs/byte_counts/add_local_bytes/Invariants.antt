use Rattle.full_names.proofs.Common.{◌≡◌, ◌≤◌, ◌+◌, take, MOST_NAME_BYTES, local_bytes}
use Rattle.full_names.proofs.byte_counts.add_local_bytes.Given as goal

abbrev pub invariant-loop-name : goal.invariant-loop-name
invariant-loop-name l = record {
  sum : l.total ≡ l.before + local_bytes l.path_bytes (take l.name-index l.names);
  few : l.total ≤ MOST_NAME_BYTES;
}
