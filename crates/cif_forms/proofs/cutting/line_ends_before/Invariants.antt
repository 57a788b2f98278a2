use Rattle.cif_forms.proofs.Common.{◌≡◌, ◌≤◌, ◌+◌, drop, line_ends_before}
use Rattle.cif_forms.proofs.cutting.line_ends_before.Given as goal

abbrev pub invariant-loop-byte : goal.invariant-loop-byte
invariant-loop-byte l = record {
  few : l.count ≤ l.byte-index;
  rest : l.count + line_ends_before (drop l.byte-index l.bytes) ≡ line_ends_before l.bytes;
}
