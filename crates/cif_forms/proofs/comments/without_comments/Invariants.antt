use Rattle.cif_forms.proofs.Common.{◌≡◌, ◌≤◌, ◌++◌, drop, at_start, shown_from}
use Rattle.cif_forms.proofs.comments.without_comments.Given as goal

abbrev pub invariant-loop-byte : goal.invariant-loop-byte
invariant-loop-byte l = record {
  depth : l.scan.depth ≤ l.byte-index;
  rest : l.out.items ++ shown_from l.scan (drop l.byte-index l.text) ≡ shown_from at_start l.text;
}
