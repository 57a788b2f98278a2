use Rattle.full_names.proofs.Common.{◌≡◌, ◌≤◌, take, MOST_NAME_BYTES, global_bytes}
use Rattle.full_names.proofs.byte_counts.add_global_bytes.Given as goal

abbrev pub invariant-loop-name : goal.invariant-loop-name
invariant-loop-name l = record { sum : l.total ≡ global_bytes (take l.name-index l.globals); few : l.total ≤ MOST_NAME_BYTES }
